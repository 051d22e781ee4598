pub mod Usage
pub mod Named
pub use Rattle.nv_members.specs as nv_members
