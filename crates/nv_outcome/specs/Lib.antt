pub mod Outcome
pub mod Same
pub mod Shared
pub mod Answer
pub mod Parts
pub mod Metadata
pub use Rattle.nv_cross_check.specs as nv_cross_check
pub use Rattle.nv_cross_check.specs.nv_scan
pub use Rattle.nv_journal.specs as nv_journal
pub use Rattle.nv_cross_check.specs.nv_logpage
pub use Rattle.nv_rows.specs as nv_rows
