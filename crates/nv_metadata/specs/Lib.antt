pub mod Blocks
pub mod Places
pub mod Memory
pub mod Holding
pub mod Linked
pub mod Walk
pub mod Gathered
pub mod Parts
pub mod Fronts
pub use Rattle.nv_outcome.specs as nv_outcome
