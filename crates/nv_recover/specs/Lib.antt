pub use Rattle.nv_outcome.specs.Answer
pub mod Errors
pub mod Names
pub mod Started
pub mod Scanned
pub mod Workers
pub mod Behind
pub mod Keeping
pub use Rattle.nv_outcome.specs as nv_outcome
pub use Rattle.nv_scan.specs as nv_scan
