pub mod Dead
pub mod Needed
pub mod Standing
pub mod Pairs
pub mod Stamps
pub mod Changes
pub mod ReadingWithout
pub mod InTurn
