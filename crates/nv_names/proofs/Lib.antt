pub mod Beside
pub mod Calls
pub mod Entries
pub mod First
pub mod Choosing
pub mod Listing
pub mod Spreads
pub mod Keeping
