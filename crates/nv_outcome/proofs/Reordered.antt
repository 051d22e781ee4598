-- What is made of a list in another order, element by element, is in another order.
use Rattle.std.proofs.Common.{ℕ, zero, suc, ◌<◌, List, [], ◌∷◌, ◌++◌, length, get_or, set, subst, arith}
use Rattle.std.specs.List.{flat_map, swap}
use Rattle.std.specs.List.Sorted.{IsPermutation}
use Rattle.std.proofs.lemmas.List.{append_assoc}
use Rattle.std.proofs.lemmas.List.Sorted.{IsPermutation-refl, IsPermutation-trans, IsPermutation-append_left, IsPermutation-append_right, IsPermutation-append_comm, IsPermutation-keeps}

front : {B : Type 0} (a b c : List B) → IsPermutation (a ++ (b ++ c)) (b ++ (a ++ c))
front {B} a b c =
    let P : List B → Type 0 = λ l. IsPermutation l (b ++ (a ++ c)) in
    let Q : List B → Type 0 = λ l. IsPermutation ((a ++ b) ++ c) l in
    subst P (append_assoc a b c) (subst Q (append_assoc b a c) (IsPermutation-append_left c (a ++ b) (b ++ a) (IsPermutation-append_comm a b)))

module _ {A B : Type 0} (f : A → List B) (d : A) where
  -- an element in the place of another that comes to the front
  exchange : (l : List A) (k : ℕ) (x : A) → k < length l → IsPermutation (f x ++ flat_map f l) (f (get_or l k d) ++ flat_map f (set l k x))
  exchange [] k x within = absurd (omega arith)
  exchange (y ∷ l) zero x within = front (f x) (f y) (flat_map f l)
  exchange (y ∷ l) (suc k) x within =
      IsPermutation-trans (f x ++ (f y ++ flat_map f l)) (f y ++ (f x ++ flat_map f l)) (f (get_or l k d) ++ (f y ++ flat_map f (set l k x)))
      (front (f x) (f y) (flat_map f l))
      (IsPermutation-trans (f y ++ (f x ++ flat_map f l)) (f y ++ (f (get_or l k d) ++ flat_map f (set l k x))) (f (get_or l k d) ++ (f y ++ flat_map f (set l k x)))
      (IsPermutation-append_right (f y) (f x ++ flat_map f l) (f (get_or l k d) ++ flat_map f (set l k x)) (exchange l k x (omega (arith, within))))
      (front (f y) (f (get_or l k d)) (flat_map f (set l k x))))

  swapped : (l : List A) (i j : ℕ) → i < length l → j < length l → IsPermutation (flat_map f l) (flat_map f (set (set l i (get_or l j d)) j (get_or l i d)))
  swapped [] i j low high = absurd (omega arith)
  swapped (x ∷ l) zero zero low high = IsPermutation-refl (flat_map f (x ∷ l))
  swapped (x ∷ l) zero (suc j) low high = exchange l j x (omega (arith, high))
  swapped (x ∷ l) (suc i) zero low high = exchange l i x (omega (arith, low))
  swapped (x ∷ l) (suc i) (suc j) low high =
      IsPermutation-append_right (f x) (flat_map f l) (flat_map f (set (set l i (get_or l j d)) j (get_or l i d))) (swapped l i j (omega (arith, low)) (omega (arith, high)))

swap_step : {A B : Type 0} (f : A → List B) (l : List A) (i j : ℕ) → i < length l → j < length l → IsPermutation (flat_map f l) (flat_map f (swap l i j))
swap_step f [] i j low high = absurd (omega arith)
swap_step f (x ∷ l) i j low high = swapped f x (x ∷ l) i j low high

pub flat_map_permutation : {A B : Type 0} (f : A → List B) (xs ys : List A) → IsPermutation xs ys → IsPermutation (flat_map f xs) (flat_map f ys)
flat_map_permutation {A} f xs ys p =
    IsPermutation-keeps xs (λ (l : List A). IsPermutation (flat_map f xs) (flat_map f l)) (IsPermutation-refl (flat_map f xs))
    (λ l i j low high before. IsPermutation-trans (flat_map f xs) (flat_map f l) (flat_map f (swap l i j)) before (swap_step f l i j low high)) ys p
