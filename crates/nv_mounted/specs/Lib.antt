pub mod Held
pub mod Blocks
pub mod Slots
pub mod Graph
pub mod Mounted
pub mod Loose
pub mod Front
pub mod Grows
pub mod Lists
pub mod Writes
pub mod Bytes
pub mod Appended
pub mod Cleaned
pub use Rattle.nv_graph.specs as nv_graph
pub use Rattle.nv_graph.specs.nv_outcome
pub use Rattle.nv_graph.specs.nv_cross_check
pub use Rattle.nv_graph.specs.nv_scan
pub use Rattle.nv_graph.specs.nv_rows
