pub mod Layout
pub mod Super
pub mod Kind
pub mod Owners
pub mod Order
pub mod FaultText
pub mod Classes
pub mod Keys
pub mod Runs
pub use Rattle.nv_region.specs.Region
pub use Rattle.nv_region.specs.Stops
pub use Rattle.nv_region.specs.Stored
pub use Rattle.nv_region.specs as nv_region
