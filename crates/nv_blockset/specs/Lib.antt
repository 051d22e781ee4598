pub mod BlockSet
pub mod Listed
pub mod WordRuns
