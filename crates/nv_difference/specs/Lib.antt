pub mod Texts
pub mod Lines
pub mod Bytes
pub mod Inodes
pub mod Names
pub mod Merging
pub mod Pairs
pub mod Difference
pub mod Walk
pub use Rattle.nv_members.specs as nv_members
