-- A set of blocks after a word was written, and without a block.
use Rattle.std.proofs.Common.{◌≡◌, ◌≢◌, inl, inr, ℕ, ◌*◌, ◌/◌, ◌%◌, ◌^◌, ◌<◌, List, length, refl, sym, ap, ◌∙◌, arith, w64, length-set, get_or-set_same, get_or-set_other}
use Rattle.std.specs.Prelude.{bit_and, slice_set, slice_index}
use Rattle.std.specs.Int.{bit_at, bit_not}
use Rattle.std.proofs.lemmas.Bool.{cases_eq}
use Rattle.std.proofs.lemmas.Nat.Bits.{bit_at_clear_same, bit_at_clear_other}
use Rattle.nv_blockset.specs.BlockSet.{has}
use Rattle.nv_blockset.specs.WordRuns.{without_block}

-- a word of other bits
module _ (words : List ℕ) (w bits : ℕ) (within : w < length words) where
  pub here : (b : ℕ) → b / 64 ≡ w → has (slice_set words w bits) b ≡ bit_at bits (b % 64)
  here b is = ap (λ (k : ℕ). bit_at (slice_index (slice_set words w bits) k) (b % 64)) is ∙ ap (λ (x : ℕ). bit_at x (b % 64)) (get_or-set_same words w bits 0 within)

  pub there : (b : ℕ) → (b / 64 ≡ w → ⊥) → has (slice_set words w bits) b ≡ has words b
  there b ne = ap (λ (x : ℕ). bit_at x (b % 64)) (get_or-set_other words w (b / 64) bits 0 ne)

-- a bit of a word
below_64 : (b : ℕ) → b % 64 < 64
below_64 b = omega arith

-- a block that is taken out, and the others
pub without_same : (words : List ℕ) (b : ℕ) → b / 64 < length words → has (without_block words b) b ≡ 0
without_same words b within = here words (b / 64) (bit_and (slice_index words (b / 64)) (bit_not w64 (1 * 2 ^ (b % 64) % 2 ^ 64))) within b refl ∙ bit_at_clear_same w64 (slice_index words (b / 64)) (b % 64) (below_64 b)

pub without_other : (words : List ℕ) (b c : ℕ) → b / 64 < length words → c ≢ b → has (without_block words b) c ≡ has words c
without_other words b c within other = elim (cases_eq (c / 64) (b / 64)) [
  | inl is ↦ here words (b / 64) (bit_and (slice_index words (b / 64)) (bit_not w64 (1 * 2 ^ (b % 64) % 2 ^ 64))) within c is
      ∙ bit_at_clear_other w64 (slice_index words (b / 64)) (b % 64) (below_64 b) (c % 64) (below_64 c) (λ e. other (omega (arith, e, is)))
      ∙ ap (λ (k : ℕ). bit_at (slice_index words k) (c % 64)) (sym is)
  | inr ne ↦ there words (b / 64) (bit_and (slice_index words (b / 64)) (bit_not w64 (1 * 2 ^ (b % 64) % 2 ^ 64))) within c ne
]

pub without_long : (words : List ℕ) (b : ℕ) → length (without_block words b) ≡ length words
without_long words b = length-set words (b / 64) (bit_and (slice_index words (b / 64)) (bit_not w64 (1 * 2 ^ (b % 64) % 2 ^ 64)))
