pub mod PlaceTable
pub mod Spread
pub mod Counting
pub mod FoundInRuns
pub mod NamesCounted
pub mod Follow
pub mod Adds
pub mod Rows
pub mod Heads
pub mod Listed
pub mod Together
pub mod CrossRows
pub mod Ordered
pub mod SameCross
pub use Rattle.nv_scan.proofs as nv_scan
