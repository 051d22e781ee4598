pub mod Dead
pub mod Held
pub mod Entry
pub mod Log
pub use Rattle.nv_scan.specs as nv_scan
