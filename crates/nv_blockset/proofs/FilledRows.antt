-- A set of blocks after the bits of a row, or a whole word of them, were written.
use Rattle.std.proofs.Common.{◌≡◌, inl, inr, ℕ, ◌+◌, ◌-◌, ◌*◌, ◌/◌, ◌%◌, ◌^◌, ◌<◌, ◌≤◌, List, length, min, max, sym, ap, ◌∙◌, arith}
use Rattle.std.specs.Prelude.{bit_and, bit_or, slice_set, slice_index}
use Rattle.std.specs.Int.{bit_at}
use Rattle.std.proofs.lemmas.Bool.{cases_eq, cases_lt}
use Rattle.std.proofs.lemmas.Nat.Bits.{bit_at_and, bit_at_or, bit_at_ones, bit_at_ones_above, bit_at_mask_inside, bit_at_mask_below, bit_at-lt, bit_at-zero, ones_shr, ones_shl}
use Rattle.nv_blockset.specs.BlockSet.{has}
use Rattle.nv_blockset.proofs.TakenOut.{here, there}

-- the word of ones from one bit on, and before another
mask : (from to i : ℕ) → from ≤ 64 → to ≤ 64 → bit_at (bit_and ((2 ^ 64 - 1) / 2 ^ (64 - to)) ((2 ^ 64 - 1) * 2 ^ from % 2 ^ 64)) i ≡ min (bit_at (2 ^ to - 1) i) (bit_at (2 ^ 64 - 2 ^ from) i)
mask from to i low high =
    bit_at_and ((2 ^ 64 - 1) / 2 ^ (64 - to)) ((2 ^ 64 - 1) * 2 ^ from % 2 ^ 64) i
    ∙ ap (λ (n : ℕ). min (bit_at n i) (bit_at ((2 ^ 64 - 1) * 2 ^ from % 2 ^ 64) i)) (ones_shr 64 (64 - to) (omega arith) ∙ ap (λ (k : ℕ). 2 ^ k - 1) (let e : 64 - (64 - to) ≡ to = omega (arith, high) in e))
    ∙ ap (λ (n : ℕ). min (bit_at (2 ^ to - 1) i) (bit_at n i)) (ones_shl 64 from low)

pub mask_inside : (from to i : ℕ) → to ≤ 64 → from ≤ i → i < to → bit_at (bit_and ((2 ^ 64 - 1) / 2 ^ (64 - to)) ((2 ^ 64 - 1) * 2 ^ from % 2 ^ 64)) i ≡ 1
mask_inside from to i high low within =
    let e = mask from to i (omega (arith, high, low, within)) high in let a = bit_at_ones to i within in let b = bit_at_mask_inside from 64 i low (omega (arith, high, within)) in omega (arith, e, a, b)

pub mask_outside : (from to i : ℕ) → from ≤ 64 → to ≤ 64 → (from ≤ i → i < to → ⊥) → bit_at (bit_and ((2 ^ 64 - 1) / 2 ^ (64 - to)) ((2 ^ 64 - 1) * 2 ^ from % 2 ^ 64)) i ≡ 0
mask_outside from to i low high away = elim (cases_lt i from) [
  | inl before ↦ (let e = mask from to i low high in let b = bit_at_mask_below from 64 i before in omega (arith, e, b))
  | inr behind ↦ elim (cases_lt i to) [
    | inl within ↦ absurd (away behind within)
    | inr past ↦ (let e = mask from to i low high in let a = bit_at_ones_above to i past in omega (arith, e, a))
  ]
]

-- The bits of a row from one block up to the end of the row or of its word are put into a word.
module _ (words : List ℕ) (from next bits : ℕ) (within : from / 64 < length words) (rises : from < next) (one : next ≤ from - from % 64 + 64)
    (inside : (i : ℕ) → from % 64 ≤ i → i < next - (from - from % 64) → bit_at bits i ≡ 1) (outside : (i : ℕ) → i < 64 → (from % 64 ≤ i → i < next - (from - from % 64) → ⊥) → bit_at bits i ≡ 0) where
  pub row_in : (b : ℕ) → from ≤ b → b < next → has (slice_set words (from / 64) (bit_or (slice_index words (from / 64)) bits)) b ≡ 1
  row_in b low high =
      let is : b / 64 ≡ from / 64 = omega (arith, low, high, one) in
      let one = inside (b % 64) (omega (arith, is, low)) (omega (arith, is, high)) in
      let e = bit_at_or (slice_index words (from / 64)) bits (b % 64) in
      let f = bit_at-lt (slice_index words (from / 64)) (b % 64) in
      here words (from / 64) (bit_or (slice_index words (from / 64)) bits) within b is ∙ omega (arith, e, one, f)

  pub row_out : (b : ℕ) → (from ≤ b → b < next → ⊥) → has (slice_set words (from / 64) (bit_or (slice_index words (from / 64)) bits)) b ≡ has words b
  row_out b away = elim (cases_eq (b / 64) (from / 64)) [
    | inl is ↦
        (let zero = outside (b % 64) (omega arith) (λ low high. away (omega (arith, is, low)) (omega (arith, is, low, high))) in
        let e = bit_at_or (slice_index words (from / 64)) bits (b % 64) in
        let f = bit_at-lt (slice_index words (from / 64)) (b % 64) in
        here words (from / 64) (bit_or (slice_index words (from / 64)) bits) within b is ∙ (let g : max (bit_at (slice_index words (from / 64)) (b % 64)) (bit_at bits (b % 64)) ≡ bit_at (slice_index words (from / 64)) (b % 64) = omega (arith, zero, f) in e ∙ g)
        ∙ ap (λ (k : ℕ). bit_at (slice_index words k) (b % 64)) (sym is))
    | inr other ↦ there words (from / 64) (bit_or (slice_index words (from / 64)) bits) within b other
  ]

-- a word is emptied
pub emptied : (words : List ℕ) (w b : ℕ) → w < length words → b / 64 ≡ w → has (slice_set words w 0) b ≡ 0
emptied words w b within is = here words w 0 within b is ∙ bit_at-zero (b % 64)

-- so a block that was off stays off where the words of a row, and no others, were emptied
pub stays_off : (old new : List ℕ) (first last b : ℕ) → (first ≤ b / 64 → b / 64 ≤ last → has new b ≡ 0) → ((first ≤ b / 64 → b / 64 ≤ last → ⊥) → has new b ≡ has old b) → has old b ≡ 0 → has new b ≡ 0
stays_off old new first last b none others off = elim (cases_lt (b / 64) first) [
  | inl before ↦ others (λ low high. omega (arith, before, low)) ∙ off
  | inr behind ↦ elim (cases_lt last (b / 64)) [ inl past ↦ others (λ low high. omega (arith, past, high)) ∙ off | inr inside ↦ none behind inside ]
]
