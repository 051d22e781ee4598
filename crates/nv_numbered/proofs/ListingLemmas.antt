-- For callers: the entries as a sorted list of the library's, and as values come in rising order.
use Rattle.std.proofs.Common.{◌≡◌, ℕ, zero, suc, ◌+◌, ◌<◌, ◌≤◌, true, false, cond, List, [], ◌∷◌, ◌++◌, length, get_or, set, Option, Some, None, refl, ap, ◌∙◌, add-zero, arith}
use Rattle.std.specs.BTreeMap.{is_at}
use Rattle.std.specs.Map.{lookup}
use Rattle.std.specs.Ordering.{nat_cmp}
use Rattle.std.proofs.lemmas.Bool.Decides.{nat_tests}
use Rattle.nv_numbered.specs.Values.{entries_from}
use Rattle.nv_numbered.proofs.EntryLemmas.{none_listed}

module _ {T : Type 0} where
  no_entry_below : (n first : ℕ) (slots : List (Option T)) → n < first → lookup (is_at (nat_cmp n)) (entries_from first slots) ≡ None
  no_entry_below n first [] below = refl
  no_entry_below n first (None ∷ rest) below = no_entry_below n (first + 1) rest (omega arith)
  no_entry_below n first (Some value ∷ rest) below =
      let differs : is_at (nat_cmp n) first ≡ false = grind (arith, nat_tests) in
      ap (λ b. cond b (Some value) (lookup (is_at (nat_cmp n)) (entries_from (first + 1) rest))) differs
      ∙ no_entry_below n (first + 1) rest (omega arith)

  -- looking a number up in the entries finds the value of its slot
  pub lookup-entries_from : (first k : ℕ) (slots : List (Option T)) → lookup (is_at (nat_cmp (first + k))) (entries_from first slots) ≡ get_or slots k None
  lookup-entries_from first k [] = refl
  lookup-entries_from first zero (None ∷ rest) = no_entry_below (first + zero) (first + 1) rest (omega arith)
  lookup-entries_from first (suc k) (None ∷ rest) =
      let shift : first + suc k ≡ first + 1 + k = omega arith in
      rw shift (lookup-entries_from (first + 1) k rest)
  lookup-entries_from first zero (Some value ∷ rest) =
      let same : is_at (nat_cmp (first + zero)) first ≡ true = grind (arith, nat_tests) in
      ap (λ b. cond b (Some value) (lookup (is_at (nat_cmp (first + zero))) (entries_from (first + 1) rest))) same
  lookup-entries_from first (suc k) (Some value ∷ rest) =
      let shift : first + suc k ≡ first + 1 + k = omega arith in
      let differs : is_at (nat_cmp (first + suc k)) first ≡ false = grind (arith, nat_tests) in
      let later : lookup (is_at (nat_cmp (first + suc k))) (entries_from (first + 1) rest) ≡ get_or rest k None =
      rw shift (lookup-entries_from (first + 1) k rest) in
      ap (λ b. cond b (Some value) (lookup (is_at (nat_cmp (first + suc k))) (entries_from (first + 1) rest))) differs ∙ later

  -- a value that comes behind all others is the last entry
  pub entries_from-push : (first : ℕ) (slots : List (Option T)) (k : ℕ) (value : T) → k < length slots → ((later : ℕ) → k ≤ later → get_or slots later None ≡ None) → entries_from first (set slots k (Some value)) ≡ entries_from first slots ++ (first + k, value) ∷ []
  entries_from-push first [] k value within none = absurd (omega arith)
  entries_from-push first (None ∷ rest) zero value within none =
      let others = none_listed (first + 1) rest (λ k. none (suc k) (omega arith)) in
      rw (others, add-zero) refl
  entries_from-push first (Some other ∷ rest) zero value within none = let clash = none zero (omega arith) in cc
  entries_from-push first (None ∷ rest) (suc k) value within none =
      let shift : first + suc k ≡ first + 1 + k = omega arith in
      rw shift (entries_from-push (first + 1) rest k value (omega arith) (λ later behind. none (suc later) (omega arith)))
  entries_from-push first (Some other ∷ rest) (suc k) value within none =
      let shift : first + suc k ≡ first + 1 + k = omega arith in
      rw shift (ap (λ es. (first, other) ∷ es) (entries_from-push (first + 1) rest k value (omega arith) (λ later behind. none (suc later) (omega arith))))
