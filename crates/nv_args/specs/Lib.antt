pub mod Changes
pub mod CommandLine
pub mod Tables
pub mod UsageValue
pub mod Words
