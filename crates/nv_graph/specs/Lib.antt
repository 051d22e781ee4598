pub mod Graph
pub mod Calls
pub mod Read
pub mod Step
pub mod Trees
pub use Rattle.nv_outcome.specs as nv_outcome
pub use Rattle.nv_outcome.specs.nv_cross_check
pub use Rattle.nv_outcome.specs.nv_scan
pub use Rattle.nv_outcome.specs.nv_journal
pub use Rattle.nv_outcome.specs.nv_rows
