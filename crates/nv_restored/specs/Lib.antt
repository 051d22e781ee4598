pub mod Same
pub mod Orderly
pub mod Numbers
pub mod Links
pub mod Restored
