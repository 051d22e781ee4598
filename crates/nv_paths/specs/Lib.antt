pub mod Seen
pub mod Places
pub mod Directories
pub mod NamedAt
pub mod MoveSpots
pub mod ReplaceSpots
pub mod Spots
