-- Rising lists by their places, and lists with the same keys.
use Rattle.std.proofs.Common.{◌≡◌, ℕ, zero, suc, ◌<◌, List, [], ◌∷◌, length, get_or, map, inl, inr, sym, subst, arith}
use Rattle.std.proofs.lemmas.Bool.{cases_eq, cases_lt}
use Rattle.std.proofs.lemmas.List.{get_or_default}
use Rattle.nv_super.specs.Order.{Rises}
use Rattle.nv_super.proofs.Rising.{Below, below_not_self, head_least, tail_rises}

-- a list with the same keys rises too
pub rises_keys : {A : Type 0} (key : A → List ℕ) (xs ys : List A) → map key xs ≡ map key ys → Rises key xs → Rises key ys
rises_keys key [] [] e r = tt
rises_keys key [] (y ∷ ys) e r = absurd (cc)
rises_keys key (x ∷ xs) [] e r = absurd (cc)
rises_keys key (x ∷ []) (y ∷ []) e r = tt
rises_keys key (x ∷ []) (y ∷ z ∷ ys) e r = absurd (let t : [] ≡ map key (z ∷ ys) = cc in cc)
rises_keys key (x ∷ w ∷ xs) (y ∷ []) e r = absurd (let t : map key (w ∷ xs) ≡ [] = cc in cc)
rises_keys key (x ∷ w ∷ xs) (y ∷ z ∷ ys) e r =
    let first : key x ≡ key y = cc in
    let rest : map key (w ∷ xs) ≡ map key (z ∷ ys) = cc in
    let second : key w ≡ key z = cc in
    (subst (λ (k : List ℕ). Below k (key z)) first (subst (λ (k : List ℕ). Below (key x) k) second r.0), rises_keys key (w ∷ xs) (z ∷ ys) rest r.1)

-- an earlier place has the lower key
places_below : {A : Type 0} (key : A → List ℕ) (xs : List A) (j k : ℕ) (d : A) → Rises key xs → j < k → k < length xs → Below (key (get_or xs j d)) (key (get_or xs k d))
places_below key [] j k d r less inside = absurd (omega (arith, inside))
places_below key (x ∷ xs) zero zero d r less inside = absurd (omega (arith, less))
places_below key (x ∷ xs) zero (suc k) d r less inside = head_least key x xs r (get_or xs k d) (k, omega (arith, inside), get_or_default xs k (get_or xs k d) d (omega (arith, inside)))
places_below key (x ∷ xs) (suc j) zero d r less inside = absurd (omega (arith, less))
places_below key (x ∷ xs) (suc j) (suc k) d r less inside = places_below key xs j k d (tail_rises key x xs r) (omega (arith, less)) (omega (arith, inside))

-- one key stands at one place
pub one_place : {A : Type 0} (key : A → List ℕ) (xs : List A) (j k : ℕ) (d : A) → Rises key xs → j < length xs → k < length xs → key (get_or xs j d) ≡ key (get_or xs k d) → j ≡ k
one_place key xs j k d r p q e = elim (cases_eq j k) [
  | inl same ↦ same
  | inr differ ↦ absurd (elim (cases_lt j k) [
    | inl less ↦ below_not_self (key (get_or xs k d)) (subst (λ (n : List ℕ). Below n (key (get_or xs k d))) e (places_below key xs j k d r less q))
    | inr more ↦ below_not_self (key (get_or xs j d)) (subst (λ (n : List ℕ). Below n (key (get_or xs j d))) (sym e) (places_below key xs k j d r (omega (arith, more, differ)) p))
  ])
]
