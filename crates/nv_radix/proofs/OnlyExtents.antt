-- A map has one list of longest extents.
use Rattle.std.proofs.Common.{◌≡◌, ◌≢◌, ℕ, ◌+◌, ◌<◌, ◌≤◌, length, get_or, List, [], ◌∷◌, Some, refl, ap, sym, ◌∙◌, subst, arith, zero, suc, add-zero, inl, inr, ◌⊎◌}
use Rattle.std.specs.List.{Contains}
use Rattle.std.proofs.lemmas.Bool.{cases_order}
use Rattle.std.proofs.lemmas.List.Elements.{All-contains}
use Rattle.nv_radix.specs.declared.extent.Extent.{Extent}
use Rattle.nv_radix.specs.Pages.{Pages, block_at}
use Rattle.nv_radix.specs.Extents.{IsMapped, HasPage, AreApart, AreExtents}

cons_at : {A : Type 0} (y : A) (xs : List A) (z : A) (k : ℕ) → k < length (y ∷ xs) → get_or (y ∷ xs) k z ≡ z → (z ≡ y) ⊎ Contains xs z
cons_at y xs z zero l e = inl (sym e)
cons_at y xs z (suc k) l e = inr (k, omega (arith, l), e)

pub Contains-cons : {A : Type 0} (y : A) (xs : List A) (z : A) → Contains (y ∷ xs) z → (z ≡ y) ⊎ Contains xs z
Contains-cons y xs z c = cons_at y xs z c.0 c.1 c.2

Contains-head : {A : Type 0} (y : A) (xs : List A) → Contains (y ∷ xs) y
Contains-head y xs = (0, omega arith, refl)

Contains-tail : {A : Type 0} (y : A) (xs : List A) (z : A) → Contains xs z → Contains (y ∷ xs) z
Contains-tail y xs z c = (suc c.0, omega (arith, c.1), c.2)

-- the extents of the pages and blocks that P ties
record ExtentsOf (P : ℕ → ℕ → Type 0) (extents : List Extent) : Type 0 where
  some : (x : Extent) → Contains extents x → 0 < x.count
  each : (x : Extent) → Contains extents x → (j : ℕ) → j < x.count → P (x.page + j) (x.block + j)
  whole : (p b : ℕ) → P p b → (x : Extent) × Contains extents x × HasPage x p
  apart : AreApart extents

-- the first extent stands before the others
rest_behind : (x : Extent) (xs : List Extent) → AreApart (x ∷ xs) → ((y : Extent) → Contains xs y → 0 < y.count) → (y : Extent) → Contains xs y → x.page + x.count ≤ y.page
rest_behind x [] a some y c = absurd (omega (arith, c.1))
rest_behind x (z ∷ xs) a some y c = elim (Contains-cons z xs y c) [
  | inl e ↦ (let first = a.0.rises in rw e first)
  | inr w ↦ (let rest = rest_behind z xs a.1 (λ u v. some u (Contains-tail z xs u v)) y w in let first = a.0.rises in omega (arith, rest, first))
]

pub tail_apart : (x : Extent) (xs : List Extent) → AreApart (x ∷ xs) → AreApart xs
tail_apart x [] a = tt
tail_apart x (y ∷ xs) a = a.1

-- an extent that begins where the first ends doesn't go on with its blocks
no_next : (x : Extent) (xs : List Extent) → AreApart (x ∷ xs) → ((y : Extent) → Contains xs y → 0 < y.count) → (y : Extent) → Contains xs y → y.page ≡ x.page + x.count → x.block + x.count ≢ y.block
no_next x [] a some y c e = absurd (omega (arith, c.1))
no_next x (z ∷ xs) a some y c e = elim (Contains-cons z xs y c) [
  | inl same ↦ (let page = ap (λ (u : Extent). u.page) same in let block = ap (λ (u : Extent). u.block) same in λ f. a.0.breaks (omega (arith, page, e)) (f ∙ block))
  | inr w ↦ absurd (let rest = rest_behind z xs a.1 (λ u v. some u (Contains-tail z xs u v)) y w in let size = some z (Contains-head z xs) in let first = a.0.rises in omega (arith, rest, size, first, e))
]

module _ (P : ℕ → ℕ → Type 0) where
  first_page : (x : Extent) (xs : List Extent) → ExtentsOf P (x ∷ xs) → P x.page x.block
  first_page x xs r = subst (λ b. P x.page b) (add-zero x.block) (subst (λ p. P p (x.block + 0)) (add-zero x.page) (r.each x (Contains-head x xs) 0 (r.some x (Contains-head x xs))))

  least : (x : Extent) (xs : List Extent) → ExtentsOf P (x ∷ xs) → (p b : ℕ) → P p b → x.page ≤ p
  least x xs r p b h =
      let w = r.whole p b h in
      elim (Contains-cons x xs w.0 w.1) [
        | inl e ↦ (let page = ap (λ (u : Extent). u.page) e in omega (arith, page, w.2.0))
        | inr c ↦ (let behind = rest_behind x xs r.apart (λ u v. r.some u (Contains-tail x xs u v)) w.0 c in omega (arith, behind, w.2.0))
      ]

  -- behind the first extent its blocks don't go on
  not_behind : ((p b c : ℕ) → P p b → P p c → b ≡ c) → (x : Extent) (xs : List Extent) → ExtentsOf P (x ∷ xs) → P (x.page + x.count) (x.block + x.count) → ⊥
  not_behind one x xs r h =
      let w = r.whole (x.page + x.count) (x.block + x.count) h in
      elim (Contains-cons x xs w.0 w.1) [
        | inl e ↦ (let page = ap (λ (u : Extent). u.page) e in let count = ap (λ (u : Extent). u.count) e in omega (arith, page, count, w.2.1))
        | inr c ↦
            let behind = rest_behind x xs r.apart (λ u v. r.some u (Contains-tail x xs u v)) w.0 c in
            let start : w.0.page ≡ x.page + x.count = omega (arith, behind, w.2.0) in
            let there = r.each w.0 w.1 0 (r.some w.0 w.1) in
            let moved = subst (λ p. P p w.0.block) (add-zero w.0.page ∙ start) (subst (λ b. P (w.0.page + 0) b) (add-zero w.0.block) there) in
            no_next x xs r.apart (λ u v. r.some u (Contains-tail x xs u v)) w.0 c start (one (x.page + x.count) (x.block + x.count) w.0.block h moved)
      ]

  tail_extents : (x : Extent) (xs : List Extent) → ExtentsOf P (x ∷ xs) → ExtentsOf (λ p b. P p b × (x.page + x.count ≤ p)) xs
  tail_extents x xs r = record {
    some = λ y c. r.some y (Contains-tail x xs y c);
    each = λ y c j l. (r.each y (Contains-tail x xs y c) j l, (let behind = rest_behind x xs r.apart (λ u v. r.some u (Contains-tail x xs u v)) y c in omega (arith, behind)));
    whole = λ p b h. (let w = r.whole p b h.0 in elim (Contains-cons x xs w.0 w.1) [
      | inl e ↦ absurd (let page = ap (λ (u : Extent). u.page) e in let count = ap (λ (u : Extent). u.count) e in omega (arith, page, count, w.2.1, h.1))
      | inr c ↦ (w.0, c, w.2)
    ]);
    apart = tail_apart x xs r.apart;
  }

  no_shorter : ((p b c : ℕ) → P p b → P p c → b ≡ c) → (x y : Extent) (xs ys : List Extent) → ExtentsOf P (x ∷ xs) → ExtentsOf P (y ∷ ys) → x.page ≡ y.page → x.block ≡ y.block → x.count < y.count → ⊥
  no_shorter one x y xs ys r q e f l =
      let there = q.each y (Contains-head y ys) x.count l in
      not_behind one x xs r (subst (λ b. P (x.page + x.count) (b + x.count)) (sym f) (subst (λ p. P (p + x.count) (y.block + x.count)) (sym e) there))

ExtentsOf-only : (P : ℕ → ℕ → Type 0) → ((p b c : ℕ) → P p b → P p c → b ≡ c) → (xs ys : List Extent) → ExtentsOf P xs → ExtentsOf P ys → xs ≡ ys
ExtentsOf-only P one [] [] r q = refl
ExtentsOf-only P one [] (y ∷ ys) r q = absurd (let w = r.whole y.page y.block (first_page P y ys q) in omega (arith, w.1.1))
ExtentsOf-only P one (x ∷ xs) [] r q = absurd (let w = q.whole x.page x.block (first_page P x xs r) in omega (arith, w.1.1))
ExtentsOf-only P one (x ∷ xs) (y ∷ ys) r q =
    let x_first = first_page P x xs r in
    let y_first = first_page P y ys q in
    let low = least P x xs r y.page y.block y_first in
    let high = least P y ys q x.page x.block x_first in
    let pages : x.page ≡ y.page = omega (arith, low, high) in
    let blocks : x.block ≡ y.block = one y.page x.block y.block (subst (λ p. P p x.block) pages x_first) y_first in
    let counts : x.count ≡ y.count = elim (cases_order x.count y.count) [
      | inl w ↦ w
      | inr w ↦ elim w [
        | inl l ↦ absurd (no_shorter P one x y xs ys r q pages blocks l)
        | inr l ↦ absurd (no_shorter P one y x ys xs q r (sym pages) (sym blocks) l)
      ]
    ] in
    let heads : x ≡ y = (λ i. record { page = pages i; count = counts i; block = blocks i }) in
    let rest : xs ≡ ys = ExtentsOf-only (λ p b. P p b × (x.page + x.count ≤ p)) (λ p b c h k. one p b c h.0 k.0) xs ys (tail_extents P x xs r) (rw heads (tail_extents P y ys q)) in
    cc

extents_of_map : (m : Pages) (extents : List Extent) → AreExtents m extents → ExtentsOf (λ p b. block_at m p ≡ Some b) extents
extents_of_map m extents a = record {
  some = λ x c. All-contains (λ (z : Extent). 0 < z.count) extents x a.some c;
  each = λ x c. All-contains (IsMapped m) extents x a.mapped c;
  whole = λ p b e. a.whole p (rw e refl);
  apart = a.apart;
}

-- two lists of the longest extents of one map are equal
pub AreExtents-only : (m : Pages) (xs ys : List Extent) → AreExtents m xs → AreExtents m ys → xs ≡ ys
AreExtents-only m xs ys a b = ExtentsOf-only (λ p c. block_at m p ≡ Some c) (λ p c d h k. cc) xs ys (extents_of_map m xs a) (extents_of_map m ys b)
