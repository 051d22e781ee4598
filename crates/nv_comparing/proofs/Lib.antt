pub mod Rows
pub mod Images
