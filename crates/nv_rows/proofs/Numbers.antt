-- The lowest unused number of a table, behind numbers that are used.
use Rattle.std.proofs.Common.{◌≡◌, ℕ, zero, suc, ◌+◌, ◌-◌, ◌<◌, ◌≤◌, inl, inr, Bool, true, false, not, nat_eq, ◌&&◌, is_none, is_some, cond, List, map, refl, ap, ◌∙◌, sym, arith, Option, Some, None}
use Rattle.std.specs.List.{find, range_with_len}
use Rattle.std.specs.Option.{option_map}
use Rattle.std.proofs.Math.Bool.{and-false}
use Rattle.std.proofs.lemmas.Bool.{cases_lt}
use Rattle.std.proofs.lemmas.Bool.Decides.{nat_tests}
use Rattle.nv_scan.specs.declared.piece.Row.{Row}
use Rattle.nv_rows.specs.Rows.{row_of}
use Rattle.nv_rows.specs.Unused.{is_unused}

module _ (p : ℕ → Bool) (f : ℕ → ℕ) (n : ℕ) where
  -- what is found from the k-th number on
  abbrev pub from : ℕ → Option ℕ
  from k = find p (map f (range_with_len k (n - k)))

  step : (k : ℕ) → k < n → from k ≡ cond (p (f k)) (Some (f k)) (from (k + 1))
  step k below = let one : n - k ≡ suc (n - (k + 1)) = omega (arith, below) in ap (λ (m : ℕ). find p (map f (range_with_len k m))) one

  pub found_here : (k : ℕ) → k < n → p (f k) ≡ true → from k ≡ Some (f k)
  found_here k below this = step k below ∙ ap (λ (b : Bool). cond b (Some (f k)) (from (k + 1))) this

  pub goes_on : (k : ℕ) → k < n → p (f k) ≡ false → from k ≡ from (k + 1)
  goes_on k below this = step k below ∙ ap (λ (b : Bool). cond b (Some (f k)) (from (k + 1))) this

  none_at : (k : ℕ) → n ≤ k → from k ≡ None
  none_at k past = let none : n - k ≡ 0 = omega (arith, past) in ap (λ (m : ℕ). find p (map f (range_with_len k m))) none

  -- What is found is found behind those of which none passes.
  pub from_behind : (k : ℕ) → ((j : ℕ) → j < k → p (f j) ≡ false) → find p (map f (range_with_len 0 n)) ≡ from k
  from_behind zero none = ap (λ (m : ℕ). find p (map f (range_with_len 0 m))) (omega arith)
  from_behind (suc k) none = from_behind k (λ j below. none j (omega (arith, below))) ∙ elim (cases_lt k n) [
    | inl below ↦ goes_on k below (none k (omega arith)) ∙ ap from (omega arith)
    | inr past ↦ none_at k past ∙ sym (none_at (suc k) (omega (arith, past)))
  ]

  pub none_left : (k : ℕ) → n ≤ k → ((j : ℕ) → j < k → p (f j) ≡ false) → find p (map f (range_with_len 0 n)) ≡ None
  none_left k past none = from_behind k none ∙ none_at k past

-- a number with a row is used, and so is 0
pub used_number : (rows : List Row) (i : ℕ) → (0 < i → is_none (row_of rows i) ≡ false) → is_unused rows i ≡ false
used_number rows zero taken = refl
used_number rows (suc i) taken = ap (λ (b : Bool). not (nat_eq (suc i) 0) && b) (taken (omega arith)) ∙ and-false (not (nat_eq (suc i) 0))

-- a number without a row, if it isn't 0, is unused
pub free_number : (rows : List Row) (i : ℕ) → 0 < i → is_none (row_of rows i) ≡ true → is_unused rows i ≡ true
free_number rows i some none =
    let test : nat_eq i 0 ≡ false = grind (arith, nat_tests) in
    ap (λ (b : Bool). not b && is_none (row_of rows i)) test ∙ ap (λ (b : Bool). not false && b) none

-- nothing stays nothing
pub mapped_none : {A B : Type 0} (f : A → B) (o : Option A) → is_some o ≡ false → is_some (option_map f o) ≡ false
mapped_none f None none = refl
mapped_none f (Some x) none = absurd (cc)
