-- Blocks put into a set and taken out of it, a word at a time, and the words that are told full.
use Rattle.std.proofs.Common.{◌≡◌, ◌⊎◌, inl, inr, ℕ, ◌+◌, ◌-◌, ◌*◌, ◌/◌, ◌%◌, ◌^◌, ◌<◌, ◌≤◌, List, length, min, sym, ap, ◌∙◌, arith, w64, length-set}
use Rattle.std.specs.Prelude.{bit_or, bit_and, slice_set, slice_index}
use Rattle.std.specs.Int.{bit_at, bit_not}
use Rattle.std.proofs.lemmas.Bool.{cases_lt, cases_eq}
use Rattle.std.proofs.lemmas.Nat.Bits.{bit_at_or, bit_at_and, bit_at_not, bit_at-lt, bit_at_ones, bit_at_ones_above, ones_shl, ones_shr, bit_at_mask_inside, bit_at_mask_below}
use Rattle.nv_blockset.specs.BlockSet.{has}
use Rattle.nv_blockset.proofs.TakenOut.{here, there}
use Rattle.nv_alloc.specs.SetTo.{SetTo, TellsFull}

-- the bit of a block in the word that it shares with another
bit_of : (from b : ℕ) → from - from % 64 ≤ b → b < from - from % 64 + 64 → b / 64 ≡ from / 64
bit_of from b low high = omega arith

-- a block of the word
module _ (words : List ℕ) (from to : ℕ) (some : from < to) (part : to ≤ from - from % 64 + 64) (within : from / 64 < length words) where
  abbrev low : ℕ
  low = from % 64

  abbrev high : ℕ
  high = from % 64 + (to - from)

  -- the word's bits are given by those that it had and those of the mask
  changed : (bits bit : ℕ) → ((i : ℕ) → low ≤ i → i < high → bit_at bits i ≡ bit) → ((i : ℕ) → i < 64 → (i < low) ⊎ (high ≤ i) → bit_at bits i ≡ bit_at (slice_index words (from / 64)) i)
      → SetTo words from to bit (slice_set words (from / 64) bits)
  changed bits bit inner outer = record {
    long = length-set words (from / 64) bits;
    inside = λ b above below. here words (from / 64) bits within b (omega (arith, above, below, part, some)) ∙ inner (b % 64) (omega (arith, above, below, part, some)) (omega (arith, above, below, part, some));
    outside = λ b far. elim (cases_eq (b / 64) (from / 64)) [
      | inl is ↦ here words (from / 64) bits within b is ∙ outer (b % 64) (omega arith) (side b is far) ∙ ap (λ (k : ℕ). bit_at (slice_index words k) (b % 64)) (sym is)
      | inr ne ↦ there words (from / 64) bits within b ne
    ];
  }
    where
      side : (b : ℕ) → b / 64 ≡ from / 64 → (b < from) ⊎ (to ≤ b) → (b % 64 < low) ⊎ (high ≤ b % 64)
      side b is (inl w) = inl (omega (arith, is, w))
      side b is (inr w) = inr (omega (arith, is, w, some))

  module _ (mask : ℕ) (ones : (i : ℕ) → low ≤ i → i < high → bit_at mask i ≡ 1) (zeros : (i : ℕ) → i < 64 → (i < low) ⊎ (high ≤ i) → bit_at mask i ≡ 0) where
    pub or_part : SetTo words from to 1 (slice_set words (from / 64) (bit_or (slice_index words (from / 64)) mask))
    or_part = changed (bit_or (slice_index words (from / 64)) mask) 1
        (λ i above below. let e = bit_at_or (slice_index words (from / 64)) mask i in let m = ones i above below in let b = bit_at-lt (slice_index words (from / 64)) i in omega (arith, e, m, b))
        (λ i small far. let e = bit_at_or (slice_index words (from / 64)) mask i in let m = zeros i small far in omega (arith, e, m))

    pub and_part : mask < 2 ^ 64 → SetTo words from to 0 (slice_set words (from / 64) (bit_and (slice_index words (from / 64)) (bit_not w64 mask)))
    and_part fits = changed (bit_and (slice_index words (from / 64)) (bit_not w64 mask)) 0
        (λ i above below.
        let e = bit_at_and (slice_index words (from / 64)) (bit_not w64 mask) i in let n = bit_at_not w64 mask i fits (omega (arith, below, part, some)) in
        let m = ones i above below in omega (arith, e, n, m))
        (λ i small far.
        let e = bit_at_and (slice_index words (from / 64)) (bit_not w64 mask) i in let n = bit_at_not w64 mask i fits small in let m = zeros i small far in
        let b = bit_at-lt (slice_index words (from / 64)) i in omega (arith, e, n, m, b))

-- the bits from one up to another
module _ (from to : ℕ) (some : from < to) (part : to ≤ from - from % 64 + 64) where
  lower : (i : ℕ) → bit_at ((2 ^ 64 - 1) * 2 ^ (from % 64) % 2 ^ 64) i ≡ bit_at (2 ^ 64 - 2 ^ (from % 64)) i
  lower i = ap (λ (n : ℕ). bit_at n i) (ones_shl 64 (from % 64) (omega arith))

  upper : (i : ℕ) → bit_at ((2 ^ 64 - 1) / 2 ^ (64 - (from % 64 + (to - from)))) i ≡ bit_at (2 ^ (from % 64 + (to - from)) - 1) i
  upper i =
      let same : 64 - (64 - (from % 64 + (to - from))) ≡ from % 64 + (to - from) = omega (arith, some, part) in
      ap (λ (n : ℕ). bit_at n i) (ones_shr 64 (64 - (from % 64 + (to - from))) (omega arith) ∙ ap (λ (n : ℕ). 2 ^ n - 1) same)

  pub mask_inside : (i : ℕ) → from % 64 ≤ i → i < from % 64 + (to - from)
      → bit_at (bit_and ((2 ^ 64 - 1) * 2 ^ (from % 64) % 2 ^ 64) ((2 ^ 64 - 1) / 2 ^ (64 - (from % 64 + (to - from))))) i ≡ 1
  mask_inside i above below =
      let e = bit_at_and ((2 ^ 64 - 1) * 2 ^ (from % 64) % 2 ^ 64) ((2 ^ 64 - 1) / 2 ^ (64 - (from % 64 + (to - from)))) i in
      let a = lower i ∙ bit_at_mask_inside (from % 64) 64 i above (omega (arith, below, some, part)) in
      let b = upper i ∙ bit_at_ones (from % 64 + (to - from)) i below in omega (arith, e, a, b)

  pub mask_outside : (i : ℕ) → i < 64 → (i < from % 64) ⊎ (from % 64 + (to - from) ≤ i)
      → bit_at (bit_and ((2 ^ 64 - 1) * 2 ^ (from % 64) % 2 ^ 64) ((2 ^ 64 - 1) / 2 ^ (64 - (from % 64 + (to - from))))) i ≡ 0
  mask_outside i small far =
      let e = bit_at_and ((2 ^ 64 - 1) * 2 ^ (from % 64) % 2 ^ 64) ((2 ^ 64 - 1) / 2 ^ (64 - (from % 64 + (to - from)))) i in
      elim far [
        | inl w ↦ (let a = lower i ∙ bit_at_mask_below (from % 64) 64 i w in omega (arith, e, a))
        | inr w ↦ (let b = upper i ∙ bit_at_ones_above (from % 64 + (to - from)) i w in omega (arith, e, b))
      ]

-- the blocks of a word that is told full are in the set
pub full_has : (words full : List ℕ) (b : ℕ) → TellsFull words full → b / 64 < length words → has full (b / 64) ≡ 1 → has words b ≡ 1
full_has words full b tells within on = ap (λ (x : ℕ). bit_at x (b % 64)) (tells.all (b / 64) within on) ∙ bit_at_ones 64 (b % 64) (omega arith)

-- all blocks are in the set: those of the first word, those of full words, and those before the first that isn't
pub passed : (words full : List ℕ) (from to edge word start stop : ℕ) → TellsFull words full → to ≤ 64 * length words → edge ≡ from - from % 64 + 64 → edge ≤ to
    → ((b : ℕ) → from ≤ b → b < edge → has words b ≡ 1) → word ≤ (to + 63) / 64 → ((v : ℕ) → edge / 64 ≤ v → v < word → has full v ≡ 1) → start ≡ min (64 * word) to
    → stop ≤ to → ((b : ℕ) → start ≤ b → b < stop → has words b ≡ 1) → (b : ℕ) → from ≤ b → b < stop → has words b ≡ 1
passed words full from to edge word start stop tells covers is inside first high full_all begins ends last b low below = elim (cases_lt b edge) [
  | inl w ↦ first b low w
  | inr w ↦ elim (cases_lt b start) [
    | inl v ↦ full_has words full b tells (omega (arith, below, ends, covers)) (full_all (b / 64) (omega (arith, w, is)) (omega (arith, v, begins)))
    | inr v ↦ last b v below
  ]
]
