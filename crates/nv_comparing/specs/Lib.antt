pub mod Shown
pub mod Comparing
pub mod Writing
pub use Rattle.nv_difference.specs as nv_difference
