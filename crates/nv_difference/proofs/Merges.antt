-- The names of two lists as one.
use Rattle.std.proofs.Common.{◌≡◌, ◌∙◌, ◌⊎◌, ◌+◌, ◌<◌, ◌≤◌, ℕ, Bool, true, false, List, [], ◌∷◌, ◌++◌, length, map, refl, sym, ap, subst, append_assoc, append-nil, inl, inr, true≢false, arith}
use Rattle.std.specs.Prelude.{nat_eq}
use Rattle.std.specs.Cmp.Lexicographic.{pointwise, nat_list_cmp_total, bytes_decides}
use Rattle.std.specs.List.{Contains}
use Rattle.std.proofs.lemmas.List.{map-append}
use Rattle.nv_super.specs.Order.{Rises}
use Rattle.nv_super.proofs.Members.{none_in}
use Rattle.nv_super.proofs.Rising.{Below, Contains-cons, Contains-head, Contains-tail, head_least, rises_cons, tail_rises}
use Rattle.nv_names.specs.declared.named.Named.{Named}
use Rattle.nv_difference.specs.Names.{by_bytes, name_bytes}
use Rattle.nv_difference.specs.Merging.{AreMerged, AreNone, IsFirst, IsLeast, IsMerging, IsUpTo, behind}

-- ---- one list

-- a list behind a name, by whether that is its first
module _ (name : List ℕ) (x : Named) (xs : List Named) where
  behind_same : name_bytes x ≡ name → behind (x ∷ xs) name ≡ xs
  behind_same same = rw ((bytes_decides (name_bytes x) name).1 same) refl

  behind_other : (name_bytes x ≡ name → ⊥) → behind (x ∷ xs) name ≡ x ∷ xs
  behind_other other = by (pointwise nat_eq (name_bytes x) name) refl where
    by : (b : Bool) → pointwise nat_eq (name_bytes x) name ≡ b → behind (x ∷ xs) name ≡ x ∷ xs
    by true is = absurd (other ((bytes_decides (name_bytes x) name).0 is))
    by false is = rw is refl

  -- which of both
  is_first : ((name_bytes x ≡ name) ⊎ (name_bytes x ≡ name → ⊥))
  is_first = by (pointwise nat_eq (name_bytes x) name) refl where
    by : (b : Bool) → pointwise nat_eq (name_bytes x) name ≡ b → (name_bytes x ≡ name) ⊎ (name_bytes x ≡ name → ⊥)
    by true is = inl ((bytes_decides (name_bytes x) name).0 is)
    by false is = inr (λ same. true≢false (sym ((bytes_decides (name_bytes x) name).1 same) ∙ is))

-- the names of a list
abbrev names : List Named → List (List ℕ)
names xs = map name_bytes xs

module _ (name : List ℕ) where
  rises_behind : (xs : List Named) → Rises by_bytes (names xs) → Rises by_bytes (names (behind xs name))
  rises_behind [] up = tt
  rises_behind (x ∷ xs) up = elim (is_first name x xs) [
    | inl same ↦ rw (behind_same name x xs same) (tail_rises by_bytes (name_bytes x) (names xs) up)
    | inr other ↦ rw (behind_other name x xs other) up
  ]

  above : (xs : List Named) → Rises by_bytes (names xs) → IsUpTo name xs → (y : List ℕ) → Contains (names (behind xs name)) y → Below name y
  above [] up to y c = absurd (none_in y c)
  above (x ∷ xs) up to y c = elim (is_first name x xs) [
    | inl same ↦ subst (λ (n : List ℕ). Below n y) same (head_least by_bytes (name_bytes x) (names xs) up y (rw (behind_same name x xs same) at c))
    | inr other ↦ elim to [
      | inl is ↦ absurd (other (sym is))
      | inr less ↦ elim (Contains-cons (name_bytes x) (names xs) y (rw (behind_other name x xs other) at c)) [
        | inl here ↦ subst (Below name) (sym here) less
        | inr there ↦ nat_list_cmp_total.trans name (name_bytes x) y less (head_least by_bytes (name_bytes x) (names xs) up y there)
      ]
    ]
  ]

  from_behind : (xs : List Named) (y : List ℕ) → Contains (names (behind xs name)) y → Contains (names xs) y
  from_behind [] y c = c
  from_behind (x ∷ xs) y c = elim (is_first name x xs) [
    | inl same ↦ Contains-tail (name_bytes x) (names xs) y (rw (behind_same name x xs same) at c)
    | inr other ↦ rw (behind_other name x xs other) at c
  ]

  or_behind : (xs : List Named) (y : List ℕ) → Contains (names xs) y → (y ≡ name) ⊎ Contains (names (behind xs name)) y
  or_behind [] y c = inr c
  or_behind (x ∷ xs) y c = elim (is_first name x xs) [
    | inl same ↦ elim (Contains-cons (name_bytes x) (names xs) y c) [
      | inl here ↦ inl (here ∙ same)
      | inr there ↦ inr (rw (behind_same name x xs same) there)
    ]
    | inr other ↦ inr (rw (behind_other name x xs other) c)
  ]

  first_in : (xs : List Named) → IsFirst xs name → Contains (names xs) name
  first_in [] is = absurd is
  first_in (x ∷ xs) is = subst (Contains (names (x ∷ xs))) is (Contains-head (name_bytes x) (names xs))

  no_longer : (xs : List Named) → length (behind xs name) ≤ length xs
  no_longer [] = omega arith
  no_longer (x ∷ xs) = elim (is_first name x xs) [
    | inl same ↦ rw (behind_same name x xs same) (omega arith)
    | inr other ↦ rw (behind_other name x xs other) (omega arith)
  ]

  shorter : (xs : List Named) → IsFirst xs name → length (behind xs name) < length xs
  shorter [] is = absurd is
  shorter (x ∷ xs) is = rw (behind_same name x xs is) (omega arith)

-- ---- both lists

module _ (left right : List Named) (least : Named) (is : IsLeast left right least) where
  -- one name less
  pub fewer : length (behind left (name_bytes least)) + length (behind right (name_bytes least)) < length left + length right
  fewer =
      let a = no_longer (name_bytes least) left in
      let b = no_longer (name_bytes least) right in
      elim is.among [
        | inl here ↦ (let c = shorter (name_bytes least) left here in omega (arith, b, c))
        | inr there ↦ (let c = shorter (name_bytes least) right there in omega (arith, a, c))
      ]

  -- the least name stands before what is merged of the others
  merged_more : Rises by_bytes (names left) → Rises by_bytes (names right) → (rest : List (List ℕ)) → AreMerged (names (behind left (name_bytes least))) (names (behind right (name_bytes least))) rest
      → AreMerged (names left) (names right) (name_bytes least ∷ rest)
  merged_more first second rest m =
      let name = name_bytes least in
      record {
        rising = rises_cons by_bytes name rest (λ y c. elim (m.each y c) [ inl w ↦ above name left first is.first y w | inr w ↦ above name right second is.second y w ]) m.rising;
        each = λ y c. elim (Contains-cons name rest y c) [
          | inl here ↦ elim is.among [
            | inl w ↦ inl (subst (Contains (names left)) (sym here) (first_in name left w))
            | inr w ↦ inr (subst (Contains (names right)) (sym here) (first_in name right w))
          ]
          | inr there ↦ elim (m.each y there) [ inl w ↦ inl (from_behind name left y w) | inr w ↦ inr (from_behind name right y w) ]
        ];
        all = λ y stands. elim stands [
          | inl w ↦ elim (or_behind name left y w) [
            | inl here ↦ subst (Contains (name ∷ rest)) (sym here) (Contains-head name rest)
            | inr there ↦ Contains-tail name rest y (m.all y (inl there))
          ]
          | inr w ↦ elim (or_behind name right y w) [
            | inl here ↦ subst (Contains (name ∷ rest)) (sym here) (Contains-head name rest)
            | inr there ↦ Contains-tail name rest y (m.all y (inr there))
          ]
        ];
      }

-- at first all names are left
pub all_left : (a b : List Named) → Rises by_bytes (names a) → Rises by_bytes (names b) → IsMerging a b a b []
all_left a b first second = record { first = first; second = second; goes = λ rest m. m }

-- one name more
pub one_merged : (a b left right done : List Named) (least : Named) → IsLeast left right least → IsMerging a b left right done
    → IsMerging a b (behind left (name_bytes least)) (behind right (name_bytes least)) (done ++ least ∷ [])
one_merged a b left right done least is m = record {
  first = rises_behind (name_bytes least) left m.first;
  second = rises_behind (name_bytes least) right m.second;
  goes = λ rest more. subst (AreMerged (names a) (names b)) (sym (ap (λ l. l ++ rest) (map-append name_bytes done (least ∷ [])) ∙ append_assoc (names done) (name_bytes least ∷ []) rest))
      (m.goes (name_bytes least ∷ rest) (merged_more left right least is m.first m.second rest more));
}

none_merged : AreMerged [] [] []
none_merged = record { rising = tt; each = λ y c. absurd (none_in y c); all = λ y stands. elim stands [ inl w ↦ absurd (none_in y w) | inr w ↦ absurd (none_in y w) ] }

-- none is left
pub all_merged : (a b left right done : List Named) → AreNone left right → IsMerging a b left right done → AreMerged (names a) (names b) (names done)
all_merged a b left right done empty m = subst (AreMerged (names a) (names b)) (append-nil (names done))
    (m.goes [] (subst (λ (l : List Named). AreMerged (names l) (names right) []) (sym empty.0) (subst (λ (l : List Named). AreMerged [] (names l) []) (sym empty.1) none_merged)))
