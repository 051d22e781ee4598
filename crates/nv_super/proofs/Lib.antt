pub mod Rising
pub mod ClassNames
pub mod RisingPlaces
pub mod Members
pub mod Filters
pub mod OneMore
pub mod Options
pub mod Runs
pub mod Ranges
pub mod Sorted
pub mod Pools
pub mod Slots
pub mod Names
pub mod Accepted
pub mod Lengths
pub mod First
pub use Rattle.nv_region.proofs as nv_region
