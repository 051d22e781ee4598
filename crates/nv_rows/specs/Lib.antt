pub mod RowList
pub mod Rows
pub mod Slots
pub mod Unused
pub mod InUse
pub mod Stat
pub use Rattle.nv_numbered.specs as nv_numbered
