pub mod Chosen
pub mod Shown
pub mod Archiving
