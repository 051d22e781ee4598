pub mod Answers
pub mod Refusals
pub mod RefusalLines
pub mod Report
pub mod Names
pub mod Escapes
pub mod Free
pub mod Faults
