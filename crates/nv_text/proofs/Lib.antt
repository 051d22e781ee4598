pub mod FreeLines
pub mod Spellings
pub mod RefusalNames
pub mod ListLines
pub mod DigitPlaces
