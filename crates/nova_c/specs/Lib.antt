pub mod Codes
pub mod Held
pub mod Image
pub mod Mounted
pub mod Handles
pub mod Refused
pub mod Told
pub mod NewInodes
