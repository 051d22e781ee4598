pub mod Values
pub mod Chunked
pub mod Filled
pub mod Table
pub mod Leaved
pub mod Lends
