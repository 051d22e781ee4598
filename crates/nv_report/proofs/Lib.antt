pub mod TextLemmas
pub mod ClassSums
pub mod OneText
pub use Rattle.nv_outcome.proofs as nv_outcome
