pub mod Drawing
pub mod Explaining
pub mod Failures
pub mod Images
pub mod Shown
pub mod Superblocks
pub mod Words
