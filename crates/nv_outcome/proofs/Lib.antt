pub mod Counts
pub mod Finite
pub mod Pieces
pub mod RowsOf
pub mod SameRows
pub mod SuperOf
pub mod CrossLaw
pub mod Whole
pub mod OwnersOf
pub mod Shared
pub mod FreeRuns
pub mod CrossFinite
pub mod JournalFinite
pub mod OnlyOne
pub mod Again
pub mod Reordered
pub mod Tickets
pub mod SameChains
pub mod Tabled
pub mod Exists
pub mod SameInodes
pub mod Metadata
pub use Rattle.nv_cross_check.proofs as nv_cross_check
pub use Rattle.nv_cross_check.proofs.nv_scan
pub use Rattle.nv_journal.proofs as nv_journal
pub use Rattle.nv_rows.proofs as nv_rows
