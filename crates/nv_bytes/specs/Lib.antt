pub mod Bytes
pub mod Storing
pub mod Data
