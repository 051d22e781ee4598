pub mod Owned
pub mod Block
pub mod Hex
pub use Rattle.nv_outcome.specs as nv_outcome
