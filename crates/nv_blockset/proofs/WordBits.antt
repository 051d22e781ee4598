-- The first zero bits of a word.
use Rattle.std.proofs.Common.{◌≡◌, ℕ, ◌+◌, ◌-◌, ◌/◌, ◌%◌, ◌^◌, ◌<◌, ◌≤◌, inl, inr, ap, sym, ◌∙◌, subst, arith, min, w64}
use Rattle.std.specs.Int.{bit_at, bit_not, trailing_zeros}
use Rattle.std.proofs.lemmas.Bool.{cases_lt}
use Rattle.std.proofs.lemmas.Nat.Bits.{bit_at-zero, bit_at-lt, bit_at_not, bit_at-trailing_zeros}
use Rattle.std.proofs.Math.Nat.{div-div-eq-div-mul}
use Rattle.std.proofs.lemmas.Nat.{pow-add}
use lib.Count.{trailing_of_zero}
use Rattle.nv_blockset.specs.WordRuns.{AreZeros, IsWordRun}

-- the bits of a number that was shifted down
shifted : (n k i : ℕ) → bit_at (n / 2 ^ k) i ≡ bit_at n (k + i)
shifted n k i = ap (λ (m : ℕ). m % 2) (div-div-eq-div-mul n (2 ^ k) (2 ^ i) ∙ ap (λ (m : ℕ). n / m) (sym (pow-add 2 k i)))

-- the bits before the first 1
zeros_are : (n i : ℕ) → n < 2 ^ 64 → i < trailing_zeros w64 n → bit_at n i ≡ 0
zeros_are n i fits lt = elim (cases_lt 0 n) [
  | inl w ↦ (bit_at-trailing_zeros w64 n w fits).2 i lt
  | inr w ↦ (let z : 0 ≡ n = omega (arith, w) in let P : ℕ → Type 0 = λ m. bit_at m i ≡ 0 in subst P z (bit_at-zero i))
]

-- the first 1, if there is one
one_is : (n : ℕ) → n < 2 ^ 64 → trailing_zeros w64 n < 64 → bit_at n (trailing_zeros w64 n) ≡ 1
one_is n fits lt = elim (cases_lt 0 n) [
  | inl w ↦ (bit_at-trailing_zeros w64 n w fits).1
  | inr w ↦ absurd (let z : n ≡ 0 = omega (arith, w) in let e = ap (λ (m : ℕ). trailing_zeros w64 m) z in let f = trailing_of_zero 64 in omega (arith, e, f, lt))
]

-- zero bits from one on, as they are counted
pub zeros_from : (word from count : ℕ) → from < 64 → word / 2 ^ from < 2 ^ 64 → count ≡ min (trailing_zeros w64 (word / 2 ^ from)) (64 - from) → AreZeros word from count
zeros_from word from count lt fits e = record {
  within = omega (arith, e, lt);
  zeros = λ i low high.
      (let j : from + (i - from) ≡ i = omega (arith, low) in
      ap (bit_at word) (sym j) ∙ sym (shifted word from (i - from)) ∙ zeros_are (word / 2 ^ from) (i - from) fits (omega (arith, low, high, e)));
  stops = λ more.
      (let all : count ≡ trailing_zeros w64 (word / 2 ^ from) = omega (arith, e, more) in
      sym (shifted word from count) ∙ ap (bit_at (word / 2 ^ from)) all ∙ one_is (word / 2 ^ from) fits (omega (arith, all, more)));
}

-- a bit of the word with each bit turned
turned : (word i bit : ℕ) → word < 2 ^ 64 → i < 64 → bit_at (bit_not w64 word) i ≡ bit → bit_at word i ≡ 1 - bit
turned word i bit fits lt is = let e = bit_at_not w64 word i fits lt in let b = bit_at-lt word i in omega (arith, e, is, b)

pub all_ones : (word from count : ℕ) → word < 2 ^ 64 → AreZeros (bit_not w64 word) from count → from + count ≡ 64 → (i : ℕ) → from ≤ i → i < 64 → bit_at word i ≡ 1
all_ones word from count fits z end i low high = turned word i 0 fits high (z.zeros i low (omega (arith, end, high)))

-- the first zero bits stand behind the first ones
pub word_runs : (word from ones count : ℕ) → word < 2 ^ 64 → AreZeros (bit_not w64 word) from ones → from + ones < 64 → AreZeros word (from + ones) count → IsWordRun word from (from + ones) count
word_runs word from ones count fits z lt run = record {
  at = omega arith;
  some = elim (cases_lt 0 count) [
    | inl w ↦ w
    | inr w ↦ absurd (
        let none : from + ones + count ≡ from + ones = omega (arith, w) in
        let one = run.stops (omega (arith, none, lt)) in let e = ap (bit_at word) none in
        let zero = turned word (from + ones) 1 fits lt (z.stops lt) in omega (arith, one, e, zero))
  ];
  before = λ i low high. turned word i 0 fits (omega (arith, high, lt)) (z.zeros i low high);
  run = run;
}
