-- What a sort and a dedup by a key leave.
use Rattle.std.proofs.Common.{◌≡◌, ◌≢◌, ◌⊎◌, inl, inr, ℕ, ◌&&◌, nat_eq, Bool, true, false, cond, List, [], ◌∷◌, refl, ap, sym, ◌∙◌, eqb-true}
use Rattle.std.specs.List.Sorted.{IsPermutation, IsSorted, IsStrictlySortedBy}
use Rattle.std.specs.List.Retain.{IsFiltered, DiffersFromLast}
use Rattle.std.specs.Cmp.{on_equiv}
use Rattle.std.specs.Cmp.Lexicographic.{slice_cmp, pointwise, on_texts, texts_ties, nat_list_eq_equiv}
use Rattle.std.specs.Ordering.{nat_cmp}
use Rattle.std.proofs.lemmas.List.Filters.{dedup_is}
use Rattle.std.proofs.lemmas.List.Kept.{IsStrictlySortedBy-dedup, Contains-dedup, Contains-from_dedup}
use Rattle.std.proofs.lemmas.List.Sorted.{Contains-permutation, IsPermutation-sym}
use Rattle.nv_super.specs.Order.{owner_key, fault_key, claim_key, Rises, SortedOf}
use Rattle.nv_super.specs.declared.owners.Owner.{Owner}
use Rattle.nv_super.specs.declared.owners.Owner.TheVariants.{Table, Log, Data}
use Rattle.nv_super.specs.declared.faults.Fault.{Fault}
use Rattle.nv_super.specs.declared.faults.Fault.TheVariants.{J1, J2, H1, H2, I1, I2, I3, L1, L2, L3, L4, E1, E2, E3, E4, C1, C2, C3, C4, C5, B1}

-- the owner of a key
abbrev owner_of : List ℕ → Owner
owner_of (t ∷ i ∷ r ∷ k ∷ []) = cond (nat_eq t 0) (Table i r) (cond (nat_eq r 0) (Log i k) (Data i k))
owner_of _ = Log 0 0

pub owner_key_only : (o p : Owner) → owner_key o ≡ owner_key p → o ≡ p
owner_key_only o p e = sym (back o) ∙ ap owner_of e ∙ back p where
  back : (o : Owner) → owner_of (owner_key o) ≡ o
  back (Table c k) = refl
  back (Log i k) = refl
  back (Data i k) = refl

abbrev pick : List (ℕ × Fault) → ℕ → Fault
pick [] c = C5
pick (x ∷ xs) c = cond (nat_eq c x.0) x.1 (pick xs c)

abbrev fault_of : List ℕ → Fault
fault_of (c ∷ x ∷ y ∷ z ∷ w ∷ v ∷ []) =
    pick ((0, J1 x) ∷ (1, J2 x y) ∷ (2, H1 x y) ∷ (3, H2 x y) ∷ (4, I1 x) ∷ (5, I2 x) ∷ (6, I3 x) ∷ (7, L1 x y) ∷ (8, L2 x y) ∷ (9, L3 x y) ∷ (10, L4 x y)
    ∷ (11, E1 x y) ∷ (12, E2 x y) ∷ (13, E3 x y) ∷ (14, E4 x y) ∷ (15, C1 x y) ∷ (16, C2 x) ∷ (17, C3 x) ∷ (18, C4 x) ∷ (19, C5) ∷ (20, B1 x (owner_of (y ∷ z ∷ w ∷ v ∷ []))) ∷ []) c
fault_of _ = C5

fault_back : (f : Fault) → fault_of (fault_key f) ≡ f
fault_back (J1 x) = refl
fault_back (J2 x y) = refl
fault_back (H1 x y) = refl
fault_back (H2 x y) = refl
fault_back (I1 x) = refl
fault_back (I2 x) = refl
fault_back (I3 x) = refl
fault_back (L1 x y) = refl
fault_back (L2 x y) = refl
fault_back (L3 x y) = refl
fault_back (L4 x y) = refl
fault_back (E1 x y) = refl
fault_back (E2 x y) = refl
fault_back (E3 x y) = refl
fault_back (E4 x y) = refl
fault_back (C1 x y) = refl
fault_back (C2 x) = refl
fault_back (C3 x) = refl
fault_back (C4 x) = refl
fault_back C5 = refl
fault_back (B1 b (Table c k)) = refl
fault_back (B1 b (Log i k)) = refl
fault_back (B1 b (Data i k)) = refl

pub fault_key_only : (f g : Fault) → fault_key f ≡ fault_key g → f ≡ g
fault_key_only f g e = sym (fault_back f) ∙ ap fault_of e ∙ fault_back g

pub claim_key_only : (x y : ℕ × Owner) → claim_key x ≡ claim_key y → x ≡ y
claim_key_only x y e =
    let heads : x.0 ≡ y.0 = cc in
    let keys : owner_key x.1 ≡ owner_key y.1 = cc in
    let owners : x.1 ≡ y.1 = owner_key_only x.1 y.1 keys in
    λ i. (heads i, owners i)

both_true : (a b : Bool) → (a && b) ≡ true → (a ≡ true) × (b ≡ true)
both_true true b h = (refl, h)
both_true false b h = cc

pub same_keys : (a b : List ℕ) → pointwise nat_eq a b ≡ true → a ≡ b
same_keys [] [] h = refl
same_keys [] (y ∷ ys) h = cc
same_keys (x ∷ xs) [] h = cc
same_keys (x ∷ xs) (y ∷ ys) h = let w = both_true (nat_eq x y) (pointwise nat_eq xs ys) h in let e = eqb-true x y w.0 in let r = same_keys xs ys w.1 in cc

rises_from : {A : Type 0} (key : A → List ℕ) (xs : List A) → IsStrictlySortedBy (λ a b. slice_cmp nat_cmp (key a) (key b)) xs → Rises key xs
unfolding IsStrictlySortedBy
rises_from key [] h = tt
rises_from key (x ∷ []) h = tt
rises_from key (x ∷ y ∷ xs) h = (h.0.0, rises_from key (y ∷ xs) h.1)

pub sorted_of : {A : Type 0} (key : A → List ℕ) → ((x y : A) → key x ≡ key y → x ≡ y) → (old mid new : List A)
    → IsPermutation old mid → IsSorted (λ a b. slice_cmp nat_cmp (key a) (key b)) mid → IsFiltered (DiffersFromLast (λ a b. pointwise nat_eq (key a) (key b))) [] mid new → SortedOf key old new
sorted_of {A} key only old mid new p s f =
    let is = dedup_is _ _ _ f in
    record {
      rising = rw is (rises_from key _ (IsStrictlySortedBy-dedup (on_texts key) (λ x y. texts_ties (key x) (key y)) mid s));
      from = λ x h. Contains-permutation _ _ x (IsPermutation-sym _ _ p) (Contains-from_dedup _ _ x (rw is at h));
      kept = λ x h. rw is (Contains-dedup (on_equiv key nat_list_eq_equiv) (λ x y e. only x y (same_keys _ _ e)) mid x (Contains-permutation _ _ x p h));
    }

-- equal or not
pub one_owner : (o p : Owner) → (o ≡ p) ⊎ (o ≢ p)
one_owner o p = elim (pointwise nat_eq (owner_key o) (owner_key p)) as (λ b. pointwise nat_eq (owner_key o) (owner_key p) ≡ b → (o ≡ p) ⊎ (o ≢ p)) [
  | true ↦ λ h. inl (owner_key_only o p (same_keys _ _ h))
  | false ↦ λ h. inr (λ e. (let same : pointwise nat_eq (owner_key o) (owner_key o) ≡ true = nat_list_eq_equiv.refl (owner_key o) in
      let other : pointwise nat_eq (owner_key o) (owner_key o) ≡ false = rw (← e) at h in cc))
] refl
