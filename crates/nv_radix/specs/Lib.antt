pub mod Nodes
pub mod Pages
pub mod Extents
pub mod Rising
pub mod Runs
