-- What stands in a list, and in one that is made of others.
use Rattle.std.proofs.Common.{◌≡◌, inl, inr, ℕ, false, eqb, List, [], ◌∷◌, map, slice_get, Some, sym, ◌∙◌, subst, arith}
use Rattle.std.specs.List.{Contains, flat_map, list_any}
use Rattle.std.proofs.lemmas.Bool.{true≢false}
use Rattle.std.proofs.lemmas.Cmp.{nat_eq_equiv}
use Rattle.std.proofs.lemmas.List.Elements.{Contains-append_left, Contains-append_right, Contains-append_cases}
use Rattle.std.proofs.lemmas.Map.Views.{list_any-from_Contains}
use Rattle.std.proofs.lemmas.Option.{slice_get_within, get_or_from_slice_get}
use Rattle.nv_super.proofs.Rising.{Contains-cons, Contains-head, Contains-tail}

pub none_in : {A : Type 0} (x : A) → Contains [] x → ⊥
none_in x c = omega (arith, c.1)

-- what has a place stands in the list
pub stands : {A : Type 0} (xs : List A) (k : ℕ) (x : A) → slice_get xs k ≡ Some x → Contains xs x
stands xs k x at = (k, slice_get_within xs k x at, get_or_from_slice_get xs k x x at)

-- a number that no member is equal to is no member
pub no_member : (xs : List ℕ) (i : ℕ) → list_any (eqb i) xs ≡ false → Contains xs i → ⊥
no_member xs i none c = true≢false (sym (list_any-from_Contains nat_eq_equiv i xs c) ∙ none)

pub into_map : {A B : Type 0} (f : A → B) (xs : List A) (x : A) → Contains xs x → Contains (map f xs) (f x)
into_map f [] x c = absurd (none_in x c)
into_map {A} {B} f (y ∷ xs) x c = elim (Contains-cons y xs x c) [
  | inl w ↦ (let P : A → Type 0 = λ z. Contains (map f (y ∷ xs)) (f z) in subst P (sym w) (Contains-head (f y) (map f xs)))
  | inr w ↦ Contains-tail (f y) (map f xs) (f x) (into_map f xs x w)
]

pub from_map : {A B : Type 0} (f : A → B) (xs : List A) (z : B) → Contains (map f xs) z → (x : A) × Contains xs x × (z ≡ f x)
from_map f [] z c = absurd (none_in z c)
from_map f (y ∷ xs) z c = elim (Contains-cons (f y) (map f xs) z c) [
  | inl w ↦ (y, Contains-head y xs, w)
  | inr w ↦ (let r = from_map f xs z w in (r.0, Contains-tail y xs r.0 r.1, r.2))
]

pub into_flat : {A B : Type 0} (f : A → List B) (xs : List A) (p : A) (x : B) → Contains xs p → Contains (f p) x → Contains (flat_map f xs) x
into_flat f [] p x c d = absurd (none_in p c)
into_flat {A} {B} f (y ∷ xs) p x c d = elim (Contains-cons y xs p c) [
  | inl w ↦ Contains-append_left (f y) (flat_map f xs) x (let P : A → Type 0 = λ z. Contains (f z) x in subst P w d)
  | inr w ↦ Contains-append_right (f y) (flat_map f xs) x (into_flat f xs p x w d)
]

pub from_flat : {A B : Type 0} (f : A → List B) (xs : List A) (x : B) → Contains (flat_map f xs) x → (p : A) × Contains xs p × Contains (f p) x
from_flat f [] x c = absurd (none_in x c)
from_flat f (y ∷ xs) x c = elim (Contains-append_cases (f y) (flat_map f xs) x c) [
  | inl w ↦ (y, Contains-head y xs, w)
  | inr w ↦ (let r = from_flat f xs x w in (r.0, Contains-tail y xs r.0 r.1, r.2))
]
