-- Lemmas on the values with their numbers, for this crate and its callers.
use Rattle.std.proofs.Common.{◌≡◌, ◌⊎◌, ◌↔◌, ℕ, zero, suc, ◌+◌, ◌-◌, ◌<◌, ◌≤◌, List, [], ◌∷◌, length, get_or, drop, Option, Some, None, is_some, cond, count_by, refl, sym, ap, ◌∙◌, inl, inr, add-zero, zero-add, arith, Contains}
use Rattle.std.specs.declared.cmp.Ordering.TheVariants.{Less}
use Rattle.std.specs.Ordering.{nat_cmp}
use Rattle.std.specs.List.{AllByRecursion}
use Rattle.std.specs.List.Sorted.{IsStrictlySortedBy}
use Rattle.std.specs.Map.{keys_of}
use Rattle.std.proofs.lemmas.List.{get_or-drop, drop-drop}
use Rattle.std.proofs.lemmas.List.Sums.{sum_by-cons}
use Rattle.nv_numbered.specs.Values.{entries_from}

-- what the test of the order answers at a lower number
below_is_less : (a b : ℕ) → a < b → nat_cmp a b ≡ Less
below_is_less a b below = grind arith

Contains-cons : {X : Type 0} (head x : X) (rest : List X) → Contains rest x → Contains (head ∷ rest) x
Contains-cons head x rest p = (suc p.0, omega (arith, p.1), p.2)

Contains-cons_cases : {X : Type 0} (head x : X) (rest : List X) → Contains (head ∷ rest) x → (head ≡ x) ⊎ Contains rest x
Contains-cons_cases {X} head x rest p = by_index p.0 p.1 p.2
  where
    by_index : (k : ℕ) → k < suc (length rest) → get_or (head ∷ rest) k x ≡ x → (head ≡ x) ⊎ Contains rest x
    by_index zero within found = inl found
    by_index (suc k) within found = inr (k, omega arith, found)

no_values : {X : Type 0} (xs : List X) → length xs ≡ 0 → xs ≡ []
no_values [] none = refl
no_values (x ∷ xs) none = absurd (omega arith)

module _ {T : Type 0} where
  pub none_listed : (first : ℕ) (slots : List (Option T)) → ((k : ℕ) → get_or slots k None ≡ None) → entries_from first slots ≡ []
  none_listed first [] none = refl
  none_listed first (None ∷ rest) none = none_listed (first + 1) rest (λ k. none (suc k))
  none_listed first (Some value ∷ rest) none = let clash = none zero in cc

  -- there is one entry for each slot with a value
  pub length-entries_from : (first : ℕ) (slots : List (Option T)) → length (entries_from first slots) ≡ count_by is_some slots
  length-entries_from first [] = refl
  length-entries_from first (None ∷ rest) =
      omega (arith, length-entries_from (first + 1) rest, sum_by-cons (λ o. cond (is_some o) 1 0) None rest)
  length-entries_from first (Some value ∷ rest) =
      omega (arith, length-entries_from (first + 1) rest, sum_by-cons (λ o. cond (is_some o) 1 0) (Some value) rest)

  all_above : (below first : ℕ) (slots : List (Option T)) → below < first → AllByRecursion (λ k. nat_cmp below k ≡ Less) (keys_of (entries_from first slots))
  all_above below first [] above = tt
  all_above below first (None ∷ rest) above = all_above below (first + 1) rest (omega arith)
  all_above below first (Some value ∷ rest) above = (below_is_less below first above, all_above below (first + 1) rest (omega arith))

  -- the entries rise strictly by number
  pub entries_from_rise : (first : ℕ) (slots : List (Option T)) → IsStrictlySortedBy nat_cmp (keys_of (entries_from first slots))
  unfolding IsStrictlySortedBy
  entries_from_rise first [] = tt
  entries_from_rise first (None ∷ rest) = entries_from_rise (first + 1) rest
  entries_from_rise first (Some value ∷ rest) = (all_above first (first + 1) rest (omega arith), entries_from_rise (first + 1) rest)

  listed_from_slot : (first : ℕ) (slots : List (Option T)) (k : ℕ) (value : T) → get_or slots k None ≡ Some value → Contains (entries_from first slots) (first + k, value)
  listed_from_slot first [] k value found = absurd (cc)
  listed_from_slot first (slot ∷ rest) zero value found = rw (found, add-zero) (0, omega arith, refl)
  listed_from_slot first (None ∷ rest) (suc k) value found =
      let shift : first + suc k ≡ first + 1 + k = omega arith in
      rw shift (listed_from_slot (first + 1) rest k value found)
  listed_from_slot first (Some other ∷ rest) (suc k) value found =
      let shift : first + suc k ≡ first + 1 + k = omega arith in
      rw shift (Contains-cons _ _ _ (listed_from_slot (first + 1) rest k value found))

  slot_from_listed : (first : ℕ) (slots : List (Option T)) (number : ℕ) (value : T) → Contains (entries_from first slots) (number, value) → (k : ℕ) × (number ≡ first + k) × (get_or slots k None ≡ Some value)
  slot_from_listed first [] number value listed = absurd (omega (arith, listed.1))
  slot_from_listed first (None ∷ rest) number value listed =
      let later = slot_from_listed (first + 1) rest number value listed in
      (suc later.0, omega (arith, later.1), later.2)
  slot_from_listed first (Some other ∷ rest) number value listed =
      elim (Contains-cons_cases _ _ _ listed) [
        | inl here ↦ (0, omega (arith, ap (λ p. p.0) here), ap (λ p. Some p.1) here)
        | inr there ↦
            let later = slot_from_listed (first + 1) rest number value there in
            (suc later.0, omega (arith, later.1), later.2)
      ]

  -- the entries have a number with a value just where the number's slot has that value
  pub Contains-entries : (slots : List (Option T)) (number : ℕ) (value : T) → Contains (entries_from 0 slots) (number, value) ↔ (get_or slots number None ≡ Some value)
  Contains-entries slots number value = (
    λ listed.
        let found = slot_from_listed 0 slots number value listed in
        ap (λ k. get_or slots k None) (found.1 ∙ zero-add found.0) ∙ found.2,
    λ found. rw zero-add at (listed_from_slot 0 slots number value found),
  )

  -- there are no entries just where there are no values
  pub is_empty-entries_from : (first : ℕ) (slots : List (Option T)) (values : List T) → count_by is_some slots ≡ length values → (values ≡ []) ↔ (entries_from first slots ≡ [])
  is_empty-entries_from first slots values counted = (
    λ none. no_values _ (length-entries_from first slots ∙ counted ∙ ap (λ (l : List T). length l) none),
    λ empty. no_values _ (sym (length-entries_from first slots ∙ counted) ∙ ap (λ (l : List (ℕ × T)). length l) empty),
  )

  -- the first value and those behind it, where it has so many slots without a value before it
  entries_from-found : (first m : ℕ) (slots : List (Option T)) (value : T) → get_or slots m None ≡ Some value → ((k : ℕ) → k < m → get_or slots k None ≡ None) → entries_from first slots ≡ (first + m, value) ∷ entries_from (first + m + 1) (drop (m + 1) slots)
  entries_from-found first m [] value found before = absurd (let none : ◌≡◌ {A = Option T} None (Some value) = found in cc)
  entries_from-found first zero (slot ∷ rest) value found before = rw (found, add-zero) refl
  entries_from-found first (suc m) (None ∷ rest) value found before =
      let shift : first + 1 + m ≡ first + suc m = omega arith in
      let more : suc m + 1 ≡ suc (m + 1) = omega arith in
      rw (← shift, more) (entries_from-found (first + 1) m rest value found (λ k low. before (suc k) (omega (arith, low))))
  entries_from-found first (suc m) (Some other ∷ rest) value found before =
      absurd (let none : ◌≡◌ {A = Option T} (Some other) None = before zero (omega arith) in cc)

  -- what is left from a number on, where the first value is that of another
  pub entries-next : (slots : List (Option T)) (from number : ℕ) (value : T) → from ≤ number → get_or slots number None ≡ Some value → ((k : ℕ) → from ≤ k → k < number → get_or slots k None ≡ None) → entries_from from (drop from slots) ≡ (number, value) ∷ entries_from (number + 1) (drop (number + 1) slots)
  entries-next slots from number value low found before =
      let m = number - from in
      let at : from + m ≡ number = omega (arith, low) in
      let behind : drop (m + 1) (drop from slots) ≡ drop (number + 1) slots = drop-drop (m + 1) from slots ∙ (let sum : from + (m + 1) ≡ number + 1 = omega (arith, low) in ap (λ n. drop n slots) sum) in
      entries_from-found from m (drop from slots) value (get_or-drop from slots m None ∙ ap (λ n. get_or slots n None) at ∙ found)
      (λ k few. get_or-drop from slots k None ∙ before (from + k) (omega arith) (omega (arith, few)))
      ∙ rw (at, behind) refl

  -- there is none where no slot from the number on has one
  pub entries-none : (slots : List (Option T)) (from : ℕ) → ((k : ℕ) → from ≤ k → get_or slots k None ≡ None) → entries_from from (drop from slots) ≡ []
  entries-none slots from none = none_listed from (drop from slots) (λ k. get_or-drop from slots k None ∙ none (from + k) (omega arith))
