pub mod Listed
pub mod Ordered
pub mod Linked
pub mod Walked
