pub mod TableWords
pub mod Keeping
pub mod Marking
pub mod Closing
pub mod Seats
pub mod Listing
pub mod RunLists
pub use Rattle.nv_claimcore.proofs as nv_claimcore
