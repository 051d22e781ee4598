-- A table of the places of inodes.
use Rattle.std.proofs.Common.{◌≡◌, ◌≢◌, ℕ, zero, suc, ◌+◌, ◌^◌, ◌<◌, ◌≤◌, ◌⊎◌, inl, inr, eqb, Option, Some, None, List, ◌∷◌, length, get_or, replicate, refl, ap, sym, ◌∙◌, subst, arith, add-one, get_or-set_same, get_or-set_other}
use Rattle.std.proofs.Math.ListN.{set, get_or-map as get_or-map_default}
use Rattle.std.proofs.lemmas.Bool.{cases_order, cases_lt, ne_eqb, eqb-true}
use Rattle.std.proofs.lemmas.List.{get_or_default, length-map, map-set}
use Rattle.std.proofs.lemmas.Map.Keys.{IsDistinct-from_apart}
use Rattle.std.proofs.lemmas.Map.Steps.{length-le_from_distinct_below}
use Rattle.std.proofs.lemmas.Map.Views.{Contains-from_any}
use Rattle.std.proofs.lemmas.Option.{same_Some}
use Rattle.nv_numbered.specs.Values.{AreNumbersBelow}
use Rattle.nv_cross_check.specs.Words.{place_in, places_in}
use Rattle.nv_cross_check.specs.Steps.{place_of, ArePlacesTo}

pub none_some : {A P : Type 0} (a : A) → None ≡ Some a → P
none_some a e = cc

pub equal_or : {P : Type 0} (k n : ℕ) → (k ≡ n → P) → (k ≢ n → P) → P
equal_or k n f g = elim (cases_order k n) [ inl w ↦ f w | inr w ↦ g (λ e. elim w [ inl v ↦ omega (arith, v, e) | inr v ↦ omega (arith, v, e) ]) ]

pub at_most : (k n : ℕ) → k < n + 1 → (k < n) ⊎ (k ≡ n)
at_most k n h = elim (cases_lt k n) [ inl w ↦ inl w | inr w ↦ inr (omega (arith, h, w)) ]

empty_at : (m i : ℕ) → place_of (replicate m None) i ≡ None
empty_at zero i = refl
empty_at (suc m) zero = refl
empty_at (suc m) (suc i) = empty_at m i

places_none : (inodes : List ℕ) (m : ℕ) → ArePlacesTo inodes 0 (replicate m None)
places_none inodes m = record {
  at = λ i k e. none_some k (sym (empty_at m i) ∙ e);
  all = λ k lt. absurd (omega (arith, lt));
}

module _ (inodes : List ℕ) (n : ℕ) (table : List (Option ℕ)) (once : (j k : ℕ) → j < k → k < length inodes → get_or inodes j 0 ≢ get_or inodes k 0) (lt : n < length inodes) (room : get_or inodes n 0 < length table) (h : ArePlacesTo inodes n table) where
  stored : place_of (set table (get_or inodes n 0) (Some n)) (get_or inodes n 0) ≡ Some n
  stored = at (get_or inodes n 0) room where
    at : (i : ℕ) → i < length table → place_of (set table i (Some n)) i ≡ Some n
    at i w = rw get_or-set_same refl

  kept : (i : ℕ) → i ≢ get_or inodes n 0 → place_of (set table (get_or inodes n 0) (Some n)) i ≡ place_of table i
  kept i ne = at (get_or inodes n 0) ne where
    at : (j : ℕ) → i ≢ j → place_of (set table j (Some n)) i ≡ place_of table i
    at j w = rw get_or-set_other refl

  before : (k : ℕ) → k < n → get_or inodes k 0 ≢ get_or inodes n 0
  before k w = once k n w lt

  places_more : ArePlacesTo inodes (n + 1) (set table (get_or inodes n 0) (Some n))
  places_more = record {
    at = λ i k e. equal_or i (get_or inodes n 0)
        (λ w. (let same : n ≡ k = same_Some n k (sym stored ∙ sym (ap (place_of (set table (get_or inodes n 0) (Some n))) w) ∙ e) in (omega (arith, same), ap (λ (j : ℕ). get_or inodes j 0) (sym same) ∙ sym w)))
        (λ ne. (let v = h.at i k (sym (kept i ne) ∙ e) in let less = v.0 in (omega (arith, less), v.1)));
    all = λ k w. elim (at_most k n w) [
      | inl v ↦ kept (get_or inodes k 0) (before k v) ∙ h.all k v
      | inr v ↦ ap (λ (j : ℕ). place_of (set table (get_or inodes n 0) (Some n)) (get_or inodes j 0)) v ∙ stored ∙ ap Some (sym v)
    ];
  }

all_zero : (m : ℕ) → places_in (replicate m 0) ≡ replicate m None
all_zero zero = refl
all_zero (suc m) = ap (λ (t : List (Option ℕ)). None ∷ t) (all_zero m)

-- words of 0 stand for no places
pub words_none : (inodes : List ℕ) (m : ℕ) → ArePlacesTo inodes 0 (places_in (replicate m 0))
words_none inodes m = subst (λ (t : List (Option ℕ)). ArePlacesTo inodes 0 t) (sym (all_zero m)) (places_none inodes m)

-- one word more is one place more
pub words_more : (inodes : List ℕ) (n : ℕ) (words : List ℕ) → ((j k : ℕ) → j < k → k < length inodes → get_or inodes j 0 ≢ get_or inodes k 0) → n < length inodes → get_or inodes n 0 < length words → ArePlacesTo inodes n (places_in words) → ArePlacesTo inodes (n + 1) (places_in (set words (get_or inodes n 0) (n + 1)))
words_more inodes n words once lt room h =
    let stands : places_in (set words (get_or inodes n 0) (n + 1)) ≡ set (places_in words) (get_or inodes n 0) (Some n) =
    map-set place_in words (get_or inodes n 0) (n + 1) ∙ ap (λ k. set (places_in words) (get_or inodes n 0) (place_in k)) (add-one n) in
    let within : get_or inodes n 0 < length (places_in words) = omega (arith, room, length-map words place_in) in
    subst (λ (t : List (Option ℕ)). ArePlacesTo inodes (n + 1) t) (sym stands) (places_more inodes n (places_in words) once lt within h)

-- there are no more numbers below a limit, none of them twice, than the limit
few_numbers : (limit : ℕ) (numbers : List ℕ) → AreNumbersBelow limit numbers → length numbers ≤ limit
few_numbers limit numbers apart =
    length-le_from_distinct_below numbers limit
    (IsDistinct-from_apart eqb numbers (λ i j d less within. ne_eqb _ _ (λ e. apart.once i j less within (get_or_default numbers i 0 d (omega (arith, less, within)) ∙ e ∙ get_or_default numbers j d 0 within))))
    (λ q is. (let c = Contains-from_any eqb-true q numbers is in subst (λ (n : ℕ). n < limit) (get_or_default numbers c.0 0 q c.1 ∙ c.2) (apart.below c.0 c.1)))

-- one more than a place among numbers below an end that takes four bytes takes four bytes
pub small_place : (end : ℕ) (numbers : List ℕ) (place : ℕ) → end < 2 ^ 32 → AreNumbersBelow end numbers → place < length numbers → place + 1 < 2 ^ 32
small_place end numbers place small apart within = let few = few_numbers end numbers apart in omega (arith, few, small, within)

-- the next inode has no place yet
pub vacant_next : (inodes : List ℕ) (n : ℕ) (words : List ℕ) → ((j k : ℕ) → j < k → k < length inodes → get_or inodes j 0 ≢ get_or inodes k 0) → n < length inodes → ArePlacesTo inodes n (places_in words) → get_or words (get_or inodes n 0) 0 ≡ 0
vacant_next inodes n words once lt h = by (get_or words (get_or inodes n 0) 0) refl
  where
    by : (w : ℕ) → get_or words (get_or inodes n 0) 0 ≡ w → w ≡ 0
    by zero is = refl
    by (suc p) is = absurd (let at = h.at (get_or inodes n 0) p (get_or-map_default place_in words (get_or inodes n 0) 0 ∙ ap place_in is) in once p n at.0 lt at.1)
