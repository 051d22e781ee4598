pub mod Tables
pub mod Steps
pub mod Told
pub mod Sides
pub mod Merges
pub mod Listed
pub mod Parts
