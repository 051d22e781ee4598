pub mod Folders
pub mod Long
pub use Rattle.nv_rows.specs as nv_rows
