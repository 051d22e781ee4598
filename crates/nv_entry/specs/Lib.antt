pub mod Name
pub mod Text
pub mod Spelling
pub mod Content
pub mod Digits
pub mod Written
pub mod Light
