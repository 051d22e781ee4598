pub mod Slots
pub mod Listed
