pub mod Held
pub mod ClaimList
pub mod ClaimedRuns
pub mod Inside
pub mod Rule
pub mod Events
pub use Rattle.nv_claimcore.specs as nv_claimcore
