-- A table that can have more numbers than inodes are in use has an unused one, or gets it, and so have all tables together.
use Rattle.std.proofs.Common.{◌≡◌, ℕ, zero, suc, ◌+◌, ◌*◌, ◌/◌, ◌%◌, ◌<◌, ◌≤◌, ◌⊎◌, Bool, true, false, IsTrue, not, nat_eq, ◌&&◌, is_none, is_some, cond, List, [], ◌∷◌, length, Option, Some, None, refl, sym, ◌∙◌, ap, subst, inl, inr, arith}
use Rattle.std.specs.List.{Contains, find}
use Rattle.std.proofs.lemmas.Bool.{cases_eq, ne_eqb}
use Rattle.std.proofs.Math.Nat.{add_right_cancel}
use Rattle.std.proofs.lemmas.Nat.{div-mul-add, mod-mul-add}
use Rattle.std.proofs.lemmas.List.FromFn.{length-map-range_with_len, get_or-map-range_with_len}
use Rattle.nv_super.specs.declared.superblock.Super.{Super}
use Rattle.nv_super.proofs.Members.{none_in}
use Rattle.nv_super.proofs.Rising.{Contains-cons, Contains-head, Contains-tail}
use Rattle.nv_tree.specs.Tree.{Node, Tree}
use Rattle.nv_members.specs.Members.{IsUsed}
use Rattle.nv_history.specs.Making.{is_unused_in, lowest_unused, most_numbers, most_slots}
use Rattle.nv_unpack.specs.declared.maker.Maker.TheVariants as makers
use Rattle.nv_unpack.specs.Turns.{HasNumber, NoneHasNumber}
use Rattle.nv_restored.specs.Numbers.{HasNumbersFor}

-- ---- as many places as numbers

-- the others, where one is taken out
without : (xs : List ℕ) (x : ℕ) → Contains xs x → (ys : List ℕ) × (length xs ≡ suc (length ys)) × ((y : ℕ) → Contains xs y → (y ≡ x → ⊥) → Contains ys y)
without [] x c = absurd (none_in x c)
without (z ∷ xs) x c = by (Contains-cons z xs x c) (without xs x)
  where
    by : (x ≡ z) ⊎ Contains xs x → (Contains xs x → (ys : List ℕ) × (length xs ≡ suc (length ys)) × ((y : ℕ) → Contains xs y → (y ≡ x → ⊥) → Contains ys y))
        → (ys : List ℕ) × (length (z ∷ xs) ≡ suc (length ys)) × ((y : ℕ) → Contains (z ∷ xs) y → (y ≡ x → ⊥) → Contains ys y)
    by (inl is) rest = (xs, refl, λ y there differs. elim (Contains-cons z xs y there) [ inl w ↦ absurd (differs (w ∙ sym is)) | inr w ↦ w ])
    by (inr in_rest) rest =
        let r = rest in_rest in
        let long = r.1 in (
          z ∷ r.0,
          ap suc long,
          λ y there differs. elim (Contains-cons z xs y there) [
            | inl w ↦ subst (λ (q : ℕ). Contains (z ∷ r.0) q) (sym w) (Contains-head z r.0)
            | inr w ↦ Contains-tail z r.0 y (r.2 y w differs)
          ],
        )

-- the others, where n different ones are taken out
taken_out : (n : ℕ) (g : ℕ → ℕ) (xs : List ℕ) → ((j k : ℕ) → j < n → k < n → g j ≡ g k → j ≡ k) → ((k : ℕ) → k < n → Contains xs (g k))
    → (ys : List ℕ) × (length xs ≡ n + length ys) × ((y : ℕ) → Contains xs y → ((k : ℕ) → k < n → y ≡ g k → ⊥) → Contains ys y)
taken_out zero g xs once there = (xs, omega arith, λ y here differs. here)
taken_out (suc n) g xs once there =
    let r = without xs (g n) (there n (omega arith)) in
    let rest = taken_out n g r.0 (λ j k low high same. once j k (omega (arith, low)) (omega (arith, high)) same)
    (λ k below. r.2 (g k) (there k (omega (arith, below))) (λ same. let is = once k n (omega (arith, below)) (omega arith) same in omega (arith, is, below))) in
    let first = r.1 in
    let others = rest.1 in (
      rest.0,
      omega (arith, first, others),
      λ y here differs. rest.2 y (r.2 y here (differs n (omega arith))) (λ k below. differs k (omega (arith, below))),
    )

-- n different numbers in a list are at most as many as it has
pigeons : (n : ℕ) (g : ℕ → ℕ) (xs : List ℕ) → ((j k : ℕ) → j < n → k < n → g j ≡ g k → j ≡ k) → ((k : ℕ) → k < n → Contains xs (g k)) → n ≤ length xs
pigeons n g xs once there = let r = taken_out n g xs once there in let long = r.1 in omega (arith, long)

-- ---- what isn't found

none_passes : (p : ℕ → Bool) (xs : List ℕ) → find p xs ≡ None → (x : ℕ) → Contains xs x → p x ≡ false
none_passes p [] none x c = absurd (none_in x c)
none_passes p (y ∷ xs) none x c = by (p y) refl none (none_passes p xs)
  where
    by : (b : Bool) → p y ≡ b → cond b (Some y) (find p xs) ≡ None → (find p xs ≡ None → (z : ℕ) → Contains xs z → p z ≡ false) → p x ≡ false
    by true passes never rest = absurd (cc)
    by false fails none_here rest = elim (Contains-cons y xs x c) [ inl w ↦ ap p w ∙ fails | inr w ↦ rest none_here x w ]

used_where : (o : Option Node) → is_none o ≡ false → IsTrue (is_some o)
used_where None h = absurd (cc)
used_where (Some a) h = refl

-- a number that no new inode can get is 0 or in use
taken : (t : Tree) (used : List ℕ) → ((i : ℕ) → IsUsed t i → Contains used i) → (n : ℕ) → is_unused_in t n ≡ false → Contains (0 ∷ used) n
taken t used all n fails = here (cases_eq n 0)
  where
    here : (n ≡ 0) ⊎ (n ≡ 0 → ⊥) → Contains (0 ∷ used) n
    here (inl is) = subst (λ (q : ℕ). Contains (0 ∷ used) q) (sym is) (Contains-head 0 used)
    here (inr differs) =
        let there : is_none (t n) ≡ false = ap (λ (b : Bool). not b && is_none (t n)) (sym (ne_eqb n 0 differs)) ∙ fails in
        Contains-tail 0 used n (all n (used_where (t n) there))

module _ (s : Super) (some : 0 < s.cpus) where
  same_place : (cpu j k : ℕ) → j * s.cpus + cpu ≡ k * s.cpus + cpu → j ≡ k
  same_place cpu j k same =
      let equal : j * s.cpus ≡ k * s.cpus = add_right_cancel cpu same in
      sym (div-mul-add j s.cpus 0 some) ∙ ap (λ n. (n + 0) / s.cpus) equal ∙ div-mul-add k s.cpus 0 some

  long : (cpu : ℕ) → length (most_numbers s cpu) ≡ most_slots s
  long cpu = length-map-range_with_len (λ k. k * s.cpus + cpu) 0 (most_slots s)

  in_table : (cpu k : ℕ) → k < most_slots s → Contains (most_numbers s cpu) (k * s.cpus + cpu)
  in_table cpu k below =
      (k, subst (λ (n : ℕ). k < n) (sym (long cpu)) below, get_or-map-range_with_len (λ k. k * s.cpus + cpu) 0 (most_slots s) k k (k * s.cpus + cpu) below (omega arith))

  -- where a table has no unused number and gets none, each that it can have is 0 or in use
  all_taken : (t : Tree) (used : List ℕ) → ((i : ℕ) → IsUsed t i → Contains used i) → (cpu : ℕ) → lowest_unused s t cpu ≡ None → (k : ℕ) → k < most_slots s → Contains (0 ∷ used) (k * s.cpus + cpu)
  all_taken t used all cpu none k below = taken t used all (k * s.cpus + cpu) (none_passes (is_unused_in t) (most_numbers s cpu) none (k * s.cpus + cpu) (in_table cpu k below))

  -- the table of one CPU
  pub table_has_numbers : (cpu count : ℕ) → count < most_slots s → HasNumbersFor s (makers.Named cpu) count
  table_has_numbers cpu count more t used few all named is = subst (λ (c : ℕ). (n : ℕ) × (lowest_unused s t c ≡ Some n)) (sym is) (by (lowest_unused s t cpu) refl)
    where
      by : (o : Option ℕ) → lowest_unused s t cpu ≡ o → (n : ℕ) × (lowest_unused s t cpu ≡ Some n)
      by (Some n) is = (n, is)
      by None none =
          let fits = pigeons (most_slots s) (λ k. k * s.cpus + cpu) (0 ∷ used) (λ j k low high same. same_place cpu j k same) (all_taken t used all cpu none) in
          absurd (omega (arith, fits, more, few))

  -- numbers of two CPUs differ
  apart : (a b j k : ℕ) → a < b → b < s.cpus → j * s.cpus + a ≡ k * s.cpus + b → ⊥
  apart a b j k less low same =
      let is : a ≡ b = sym (mod-mul-add j s.cpus a (omega (arith, less, low))) ∙ ap (λ n. n % s.cpus) same ∙ mod-mul-add k s.cpus b low in
      omega (arith, is, less)

  -- a list with the numbers of the first CPUs is as long as their tables together
  all_sizes : (n : ℕ) → n ≤ s.cpus → (xs : List ℕ) → ((cpu k : ℕ) → cpu < n → k < most_slots s → Contains xs (k * s.cpus + cpu)) → n * most_slots s ≤ length xs
  all_sizes zero few xs there =
      let none : 0 * most_slots s ≡ 0 = grind arith in
      omega (arith, none)
  all_sizes (suc n) few xs there =
      let last = taken_out (most_slots s) (λ k. k * s.cpus + n) xs (λ j k low high same. same_place n j k same) (λ k below. there n k (omega arith) below) in
      let rest = all_sizes n (omega (arith, few)) last.0 (λ cpu k low below. last.2 (k * s.cpus + cpu) (there cpu k (omega (arith, low)) below) (λ j inside same. apart cpu n k j low (omega (arith, few)) same)) in
      let more : suc n * most_slots s ≡ n * most_slots s + most_slots s = grind arith in
      let long = last.1 in
      omega (arith, rest, more, long)

  -- all tables together
  pub all_have_numbers : (count : ℕ) → count < s.cpus * most_slots s → HasNumbersFor s makers.Free count
  all_have_numbers count more t used few all cpu may = by may.1
    where
      by : HasNumber s t cpu ⊎ NoneHasNumber s t → (n : ℕ) × (lowest_unused s t cpu ≡ Some n)
      by (inl has) = has
      by (inr none) =
          let fits = all_sizes s.cpus (omega arith) (0 ∷ used) (λ c k low below. all_taken t used all c (none c low) k below) in
          absurd (omega (arith, fits, more, few))
