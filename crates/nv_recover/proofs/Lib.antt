pub mod Handed
pub mod MadeMaps
pub mod RowMaps
pub mod TwoSets
pub mod Inodes
pub mod Tickets
pub mod InOrder
pub mod Claims
pub mod Answers
pub use Rattle.nv_outcome.proofs as nv_outcome
pub use Rattle.nv_scan.proofs as nv_scan
pub mod Owned
pub mod Stops
