pub mod Rank
pub mod Shares
pub mod Map
pub mod Marks
pub mod Text
pub use Rattle.nv_outcome.specs as nv_outcome
