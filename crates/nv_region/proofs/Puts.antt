-- A word that was put is there, and all others are as they were.
use Rattle.std.proofs.Common.{◌≡◌, ◌≢◌, ℕ, ◌/◌, ◌<◌, length, ap, ◌∙◌, length-set}
use Rattle.std.proofs.lemmas.List.{get_or-set_same, get_or-set_other}
use Rattle.nv_region.specs.Region.{Region, HasBlocks, word, put}
use Rattle.nv_region.specs.Stops.{Choices, IsMixed}

pub put_here : (R : Region) (at value : ℕ) → at / 8 < length R.words → word (put R at value) at ≡ value
put_here R at value inside = get_or-set_same R.words (at / 8) value 0 inside

pub put_other : (R : Region) (at value a : ℕ) → a / 8 ≢ at / 8 → word (put R at value) a ≡ word R a
put_other R at value a differ = get_or-set_other R.words (at / 8) (a / 8) value 0 differ

pub put_long : (R : Region) (at value : ℕ) → length (put R at value).words ≡ length R.words
put_long R at value = length-set R.words (at / 8) value

-- words that change leave the blocks
pub blocks_stay : (R S : Region) (these : Choices) (n : ℕ) → IsMixed R these S → HasBlocks R n → HasBlocks S n
blocks_stay R S these n mixed blocks = (mixed.as_long ∙ blocks.0, ap length mixed.same_rest ∙ blocks.1)
