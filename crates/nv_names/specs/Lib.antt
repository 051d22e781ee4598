pub mod Buckets
pub mod Keys
pub mod Names
pub mod Table
pub mod Bucket
pub mod Left
