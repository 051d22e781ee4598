pub mod Parts
pub mod Pushed
pub mod Standing
pub mod Unused
pub mod Going
pub mod Stepping
pub mod Made
mod Kept
