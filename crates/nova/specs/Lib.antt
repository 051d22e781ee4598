pub mod Changes
pub mod Makers
