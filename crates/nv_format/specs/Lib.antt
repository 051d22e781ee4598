pub mod Format
pub mod Root
pub mod Sentences
pub use Rattle.nv_region.specs.Region
pub use Rattle.nv_region.specs.Stops
pub use Rattle.nv_super.specs.Layout
pub use Rattle.nv_super.specs.Super
