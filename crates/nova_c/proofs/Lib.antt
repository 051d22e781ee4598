pub mod Values
pub mod Walks
mod Refusals
mod Calls
