pub mod Sets
pub mod Lists
pub mod WordBits
pub mod TakenOut
pub mod FilledRows
