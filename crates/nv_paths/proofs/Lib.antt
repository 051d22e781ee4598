pub mod Walks
pub mod Targets
mod Spots
mod Passes
pub mod Refusing
pub mod CreateTests
pub mod LinkSpots
pub mod NamedAt
pub mod Directories
pub mod MoveSpots
pub mod ReplaceSpots
