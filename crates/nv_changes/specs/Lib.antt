pub mod Calls
pub mod Changing
