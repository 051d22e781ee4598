pub mod Classes
pub mod Lengths
pub mod Squares
pub mod OneWord
pub mod Known
pub mod Beginnings
