pub mod Said
pub mod Making
pub mod Asking
pub mod Keeping
pub mod Called
pub mod Halting
pub mod Stopping
