pub mod Words
pub mod Ranges
pub mod Changes
pub mod StoredPages
pub mod Filled
