pub mod Cross
pub mod Doubled
pub mod Listing
pub mod Listings
pub mod NameLists
pub mod Steps
pub mod Tables
pub mod Words
pub use Rattle.nv_numbered.specs as nv_numbered
pub use Rattle.nv_scan.specs as nv_scan
pub use Rattle.nv_scan.specs.nv_logpage
pub use Rattle.nv_scan.specs.nv_claimcore
