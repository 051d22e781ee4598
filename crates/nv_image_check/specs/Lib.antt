pub mod Answering
pub mod Workers
pub mod Recovering
pub mod Checking
pub mod Mapping
pub mod Files
pub mod Gathered
pub mod GatheredImage
pub mod Several
pub mod Sentences
pub mod Explained
pub use Rattle.nv_recover.specs as nv_recover
