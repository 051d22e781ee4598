pub mod Last
pub mod Texts
pub mod Lengths
pub mod Shown
pub mod Summary
pub use Rattle.nv_outcome.specs as nv_outcome
pub use Rattle.nv_scan.specs as nv_scan
