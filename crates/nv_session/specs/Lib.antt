pub mod Calls
pub mod Machine
pub mod Commands
pub mod Sessions
pub mod Made
pub mod Printed
pub mod ByNumber
pub mod Alike
pub use Rattle.nv_region.specs.Region
pub use Rattle.nv_super.specs.Super
pub use Rattle.nv_format.specs.Format
pub use Rattle.nv_outcome.specs.Outcome
pub use Rattle.nv_calls.specs as nv_calls
pub use Rattle.nv_paths.specs as nv_paths
pub use Rattle.nv_tree.specs as nv_tree
