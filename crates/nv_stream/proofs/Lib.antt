pub mod Plain
pub mod KnownFacts
pub mod LineLemmas
pub mod StreamLemmas
pub mod Limits
