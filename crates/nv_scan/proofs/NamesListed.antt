-- The listing of a name index as a list in order.
use Rattle.std.proofs.Common.{◌≡◌, ℕ, inl, inr, List, [], ◌∷◌, refl, sym, ◌∙◌, ap, subst, Option, Some, nat_cmp, arith, IsSome}
use Rattle.std.specs.List.{Contains}
use Rattle.std.specs.List.Sorted.{IsStrictlySortedBy}
use Rattle.std.specs.Cmp.Lexicographic.{slice_cmp}
use Rattle.std.proofs.lemmas.List.Elements.{All-contains}
use Rattle.nv_super.specs.Order.{Rises, Lists}
use Rattle.nv_super.proofs.Rising.{Contains-cons, Contains-head, Contains-tail}
use Rattle.nv_super.proofs.Options.{some_is}
use Rattle.nv_names.specs.Names.{Names, name_at, names_of, ListsNames}

abbrev name : List ℕ × ℕ × ℕ → List ℕ
name x = x.0

rises : (xs : List (List ℕ × ℕ × ℕ)) → IsStrictlySortedBy (slice_cmp nat_cmp) (names_of xs) → Rises name xs
unfolding IsStrictlySortedBy
rises [] s = tt
rises (x ∷ []) s = tt
rises (x ∷ y ∷ xs) s = (s.0.0, rises (y ∷ xs) s.1)

named_in : (xs : List (List ℕ × ℕ × ℕ)) (q : List ℕ) → Contains (names_of xs) q → (e : List ℕ × ℕ × ℕ) × Contains xs e × (e.0 ≡ q)
named_in [] q c = absurd (omega (arith, c.1))
named_in (x ∷ xs) q c = elim (Contains-cons x.0 (names_of xs) q c) [
  | inl w ↦ (x, Contains-head x xs, sym w)
  | inr w ↦ (let r = named_in xs q w in (r.0, Contains-tail x xs r.0 r.1, r.2))
]

-- each name stands once, in order, with what it stands for
pub names_listed : (index : Names) (listed : List (List ℕ × ℕ × ℕ)) → ListsNames index listed → Lists name (λ x. name_at index x.0 ≡ Some (x.1, x.2)) listed
names_listed index listed l = record {
  rising = rises listed l.rising;
  each = λ x c. All-contains (λ (e : List ℕ × ℕ × ℕ). name_at index e.0 ≡ Some (e.1, e.2)) listed x l.each c;
  all = λ x h. (
      let r = named_in listed x.0 (l.all x.0 (subst (λ (o : Option (ℕ × ℕ)). IsSome o) (sym h) refl)) in
      let here = All-contains (λ (e : List ℕ × ℕ × ℕ). name_at index e.0 ≡ Some (e.1, e.2)) listed r.0 l.each r.1 in
      let there : name_at index r.0.0 ≡ Some (x.1, x.2) = ap (name_at index) r.2 ∙ h in
      let mine : ℕ × ℕ = (r.0.1, r.0.2) in
      let its : ℕ × ℕ = (x.1, x.2) in
      let same = some_is mine its (name_at index r.0.0) here there in
      subst (Contains listed) (λ k. (r.2 k, (same k).0, (same k).1)) r.1);
}
