pub mod MadeTrees
pub mod NewNumbers
pub mod Growing
pub mod Recoveries
pub mod OneCall
mod Logged
pub mod Cleaned
mod Kept
pub mod Going
pub mod LeftTables
