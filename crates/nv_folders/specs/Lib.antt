pub mod Folders
pub mod Walk
pub use Rattle.nv_members.specs as nv_members
