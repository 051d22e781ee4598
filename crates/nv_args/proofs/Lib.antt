pub mod Adding
pub mod Line
pub mod Sizing
pub mod Spelling
pub mod Owning
