-- The owners of a block among claims, in their order.
use Rattle.std.proofs.Common.{◌≡◌, ◌∙◌, ℕ, zero, suc, ◌+◌, ◌-◌, ◌<◌, ◌≤◌, ◌==◌, inl, inr, Bool, true, false, List, [], ◌∷◌, ◌++◌, refl, ap, sym, subst, eqb-true, arith}
use Rattle.std.specs.Prelude.{if◌then◌else◌}
use Rattle.std.specs.List.{Contains}
use Rattle.std.proofs.lemmas.Bool.{cases_eq}
use Rattle.std.proofs.lemmas.Bool.Decides.{nat_tests}
use Rattle.nv_super.specs.declared.owners.Owner.{Owner}
use Rattle.nv_super.specs.declared.owners.Owner.TheVariants as owners
use Rattle.nv_super.specs.Order.{Rises, Lists, owner_key}
use Rattle.nv_super.specs.Owners.{pairs}
use Rattle.nv_super.proofs.Rising.{Contains-cons, Contains-head, Contains-tail, head_least, rises_cons, tail_rises}
use Rattle.nv_radix.specs.declared.extent.Extent.{Extent}
use Rattle.nv_scan.specs.Claims.{run_claims}
use Rattle.nv_block.specs.Owned.{has_block, owners_at, run_owners}

-- the key of a claim is its owner's
abbrev pub key : ℕ × Owner → List ℕ
key x = owner_key x.1

-- the owners behind one more claim, by whether it is of the block
abbrev pub with_first : Bool → Owner → List Owner → List Owner
with_first t o os = if t then o ∷ os else os

first_there : (t : Bool) (o p : Owner) (os : List Owner) → t ≡ true → p ≡ o → Contains (with_first t o os) p
first_there true o p os e same = subst (Contains (o ∷ os)) (sym same) (Contains-head o os)
first_there false o p os e same = absurd (cc)

rest_there : (t : Bool) (o p : Owner) (os : List Owner) → Contains os p → Contains (with_first t o os) p
rest_there true o p os c = Contains-tail o os p c
rest_there false o p os c = c

module _ (b : ℕ) where
  -- behind one another
  pub owners_at-append : (xs ys : List (ℕ × Owner)) → owners_at b (xs ++ ys) ≡ owners_at b xs ++ owners_at b ys
  owners_at-append [] ys = refl
  owners_at-append (x ∷ xs) ys = by (x.0 == b) (owners_at-append xs ys) where
    by : (t : Bool) → owners_at b (xs ++ ys) ≡ owners_at b xs ++ owners_at b ys → with_first t x.1 (owners_at b (xs ++ ys)) ≡ with_first t x.1 (owners_at b xs) ++ owners_at b ys
    by true e = ap (λ (os : List Owner). x.1 ∷ os) e
    by false e = e

  -- an owner that is found is that of a claim of the block
  pub owners_from : (xs : List (ℕ × Owner)) (o : Owner) → Contains (owners_at b xs) o → Contains xs (b, o)
  owners_from [] o c = absurd (omega (arith, c.1))
  owners_from (x ∷ xs) o c = by (x.0 == b) refl (owners_from xs o) c where
    by : (t : Bool) → (x.0 == b) ≡ t → (Contains (owners_at b xs) o → Contains xs (b, o)) → Contains (with_first t x.1 (owners_at b xs)) o → Contains (x ∷ xs) (b, o)
    by true e rest c = elim (Contains-cons x.1 (owners_at b xs) o c) [
      | inl same ↦ (let here : x ≡ (b, o) = (λ i. (eqb-true x.0 b e i, sym same i)) in subst (Contains (x ∷ xs)) here (Contains-head x xs))
      | inr w ↦ Contains-tail x xs (b, o) (rest w)
    ]
    by false e rest c = Contains-tail x xs (b, o) (rest c)

  -- and each such owner is found
  pub owners_to : (xs : List (ℕ × Owner)) (o : Owner) → Contains xs (b, o) → Contains (owners_at b xs) o
  owners_to [] o c = absurd (omega (arith, c.1))
  owners_to (x ∷ xs) o c = elim (Contains-cons x xs (b, o) c) [
    | inl same ↦ (let number : b ≡ x.0 = ap (λ (y : ℕ × Owner). y.0) same in first_there (x.0 == b) x.1 o (owners_at b xs) (grind (arith, nat_tests)) (ap (λ (y : ℕ × Owner). y.1) same))
    | inr w ↦ rest_there (x.0 == b) x.1 o (owners_at b xs) (owners_to xs o w)
  ]

  -- they rise as the claims do
  pub owners_rise : (xs : List (ℕ × Owner)) → Rises key xs → Rises owner_key (owners_at b xs)
  owners_rise [] r = tt
  owners_rise (x ∷ xs) r = by (x.0 == b) (owners_rise xs (tail_rises key x xs r)) where
    by : (t : Bool) → Rises owner_key (owners_at b xs) → Rises owner_key (with_first t x.1 (owners_at b xs))
    by true rest = rises_cons owner_key x.1 (owners_at b xs) (λ o c. head_least key x xs r (b, o) (owners_from xs o c)) rest
    by false rest = rest

  -- so they are just the owners that hold the block
  pub owners_list : (P : ℕ × Owner → Type 0) (xs : List (ℕ × Owner)) → Lists key P xs → Lists owner_key (λ o. P (b, o)) (owners_at b xs)
  owners_list P xs lists = record {
    rising = owners_rise xs lists.rising;
    each = λ o c. lists.each (b, o) (owners_from xs o c);
    all = λ o p. owners_to xs o (lists.all (b, o) p);
  }

  -- ---- one claim, and the blocks of a run

  pub one_owner : (x : ℕ × Owner) → x.0 ≡ b → owners_at b (x ∷ []) ≡ x.1 ∷ []
  one_owner x e = let t : (x.0 == b) ≡ true = grind (arith, nat_tests) in ap (λ (y : Bool). with_first y x.1 []) t

  pub no_owner : (x : ℕ × Owner) → (x.0 == b) ≡ false → owners_at b (x ∷ []) ≡ []
  no_owner x e = ap (λ (y : Bool). with_first y x.1 []) e

  -- of a run whose blocks lie elsewhere
  none_of_run : (i p start n : ℕ) → ((j : ℕ) → j < n → (start + j == b) ≡ false) → owners_at b (pairs start (owners.Data i p) n) ≡ []
  none_of_run i p start zero other = refl
  none_of_run i p start (suc n) other =
      owners_at-append (pairs start (owners.Data i p) n) ((start + n, owners.Data i (p + n)) ∷ [])
      ∙ ap (λ (os : List Owner). os ++ owners_at b ((start + n, owners.Data i (p + n)) ∷ [])) (none_of_run i p start n (λ j h. other j (omega (arith, h))))
      ∙ no_owner (start + n, owners.Data i (p + n)) (other n (omega arith))

  -- of a run with the block
  one_of_run : (i p start n k : ℕ) → k < n → start + k ≡ b → owners_at b (pairs start (owners.Data i p) n) ≡ owners.Data i (p + k) ∷ []
  one_of_run i p start zero k within e = absurd (omega (arith, within))
  one_of_run i p start (suc n) k within e = owners_at-append (pairs start (owners.Data i p) n) ((start + n, owners.Data i (p + n)) ∷ []) ∙ elim (cases_eq k n) [
    | inl same ↦ (
        let here : start + n ≡ b = omega (arith, same, e) in
        ap (λ (os : List Owner). os ++ owners_at b ((start + n, owners.Data i (p + n)) ∷ [])) (none_of_run i p start n (λ j h. grind (arith, nat_tests)))
        ∙ one_owner (start + n, owners.Data i (p + n)) here ∙ ap (λ (j : ℕ). owners.Data i (p + j) ∷ []) (sym same))
    | inr differs ↦ (
        let before : k < n = omega (arith, within, differs) in
        ap (λ (os : List Owner). os ++ owners_at b ((start + n, owners.Data i (p + n)) ∷ [])) (one_of_run i p start n k before e)
        ∙ ap (λ (os : List Owner). (owners.Data i (p + k) ∷ []) ++ os) (no_owner (start + n, owners.Data i (p + n)) (grind (arith, nat_tests))))
  ]

  -- the owners by a run
  pub run_owners_are : (i : ℕ) (x : Extent) → owners_at b (run_claims i x) ≡ run_owners i x b
  run_owners_are i x = by (has_block x b) refl where
    by : (t : Bool) → has_block x b ≡ t → owners_at b (pairs x.block (owners.Data i x.page) x.count) ≡ (if t then owners.Data i (x.page + (b - x.block)) ∷ [] else [])
    by true e =
        let from : x.block ≤ b = grind (arith, nat_tests) in
        let below : b - x.block < x.count = grind (arith, nat_tests) in
        one_of_run i x.page x.block x.count (b - x.block) below (omega (arith, from))
    by false e = none_of_run i x.page x.block x.count (λ j h. grind (arith, nat_tests))
