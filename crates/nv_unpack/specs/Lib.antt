pub mod Places
pub mod Steps
pub mod Calls
pub mod Turns
pub mod Ways
pub mod Making
pub mod Told
pub mod Unpacking
