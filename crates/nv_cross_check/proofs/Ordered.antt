-- Lists whose keys differ, and the same in order.
use Rattle.std.proofs.Common.{true, false, Some, Option, IsSome, ◌≡◌, ◌≢◌, ◌⊎◌, inl, inr, ℕ, suc, ◌<◌, List, [], ◌∷◌, ◌++◌, length, get_or, map, refl, ap, sym, ◌∙◌, subst, nat_cmp, nat_eq, arith}
use Rattle.std.specs.List.{Contains, IsDistinct, AllByRecursion}
use Rattle.std.specs.Ordering.{is_eq, ordering_reverse}
use Rattle.std.specs.Cmp.Lexicographic.{pointwise, slice_cmp, nat_list_cmp_total, nat_list_eq_equiv, texts_ties, bytes_decides}
use Rattle.std.specs.declared.cmp.Ordering.{Ordering}
use Rattle.std.specs.declared.cmp.Ordering.TheVariants.{Less, Equal, Greater}
use Rattle.std.proofs.lemmas.List.{get_or-map, length-map}
use Rattle.std.proofs.lemmas.List.Elements.{Contains-append_cases, All-contains}
use Rattle.std.proofs.lemmas.Map.Keys.{IsDistinct-head, IsDistinct-tail}
use Rattle.nv_super.specs.Order.{Rises, SortedOf}
use Rattle.nv_super.proofs.Rising.{Below, Contains-cons, Contains-head, Contains-tail, head_least, rises_cons, tail_rises}
use Rattle.nv_super.proofs.Members.{from_map, into_map}
use Rattle.nv_super.proofs.Options.{some_is}
use Rattle.nv_names.specs.Names.{Names, name_at, names_of, HasNames}

-- no two elements have one key
abbrev pub Apart : {A : Type 0} → (A → List ℕ) → List A → Type 0
Apart key [] = Unit {0}
Apart {A} key (x ∷ xs) = ((y : A) → Contains xs y → key x ≢ key y) × Apart key xs

-- two lists whose keys differ, also between them
pub apart_append : {A : Type 0} (key : A → List ℕ) (xs ys : List A) → Apart key xs → Apart key ys → ((x y : A) → Contains xs x → Contains ys y → key x ≢ key y) → Apart key (xs ++ ys)
apart_append key [] ys a b other = b
apart_append key (x ∷ xs) ys a b other = (
  λ y c. elim (Contains-append_cases xs ys y c) [ inl w ↦ a.0 y w | inr w ↦ other x y (Contains-head x xs) w ],
  apart_append key xs ys a.1 b (λ z y v w. other z y (Contains-tail x xs z v) w),
)

-- elements by their numbers, of which none stands twice
pub apart_numbers : {A : Type 0} (n : A → ℕ) (xs : List A) → ((j k : ℕ) → j < k → k < length (map n xs) → get_or (map n xs) j 0 ≢ get_or (map n xs) k 0) → Apart (λ x. n x ∷ []) xs
apart_numbers n [] once = tt
apart_numbers {A} n (x ∷ xs) once = (other, apart_numbers n xs (λ j k order inside. once (suc j) (suc k) (omega (arith, order)) (omega (arith, inside))))
  where
    other : (y : A) → Contains xs y → n x ∷ [] ≢ n y ∷ []
    other y c same =
        let at : get_or (map n xs) c.0 0 ≡ n y = get_or-map n xs c.0 y 0 c.1 ∙ ap n c.2 in
        let first : n x ≡ n y = cc in
        once 0 (suc c.0) (omega arith) (omega (arith, c.1, length-map xs n)) (first ∙ sym at)

among : {K : Type 0} (P : K → Type 0) (ks : List K) (k : K) → AllByRecursion P ks → Contains ks k → P k
among P [] k all c = absurd (omega (arith, c.1))
among {K} P (j ∷ ks) k all c = elim (Contains-cons j ks k c) [
  | inl w ↦ subst P (sym w) all.0
  | inr w ↦ among P ks k all.1 w
]

abbrev Line : Type 0
Line = List ℕ × ℕ × ℕ

abbrev pub name_of : Line → List ℕ
name_of x = x.0

-- names that are distinct by the test are apart
pub apart_names : (xs : List Line) → IsDistinct (pointwise nat_eq) (names_of xs) → Apart name_of xs
apart_names [] d = tt
apart_names (x ∷ xs) d = (other, apart_names xs (IsDistinct-tail (pointwise nat_eq) x.0 (names_of xs) d))
  where
    other : (y : Line) → Contains xs y → x.0 ≢ y.0
    other y c same =
        let no : pointwise nat_eq x.0 y.0 ≡ false = among (λ k. pointwise nat_eq x.0 k ≡ false) (names_of xs) y.0 (IsDistinct-head (pointwise nat_eq) x.0 (names_of xs) d) (into_map name_of xs y c) in
        let yes : pointwise nat_eq x.0 y.0 ≡ true = subst (λ (k : List ℕ). pointwise nat_eq x.0 k ≡ true) same (nat_list_eq_equiv.refl x.0) in
        let both : true ≡ false = sym yes ∙ no in
        cc

-- a list with one element more, in its place
pub record Inserted {A : Type 0} (key : A → List ℕ) (x : A) (ys zs : List A) : Type 0 where
  pub count : length zs ≡ suc (length ys)
  pub rising : Rises key zs
  pub from : (z : A) → Contains zs z → (z ≡ x) ⊎ Contains ys z
  pub new : Contains zs x
  pub kept : (y : A) → Contains ys y → Contains zs y

insert_into : {A : Type 0} (key : A → List ℕ) (x : A) (ys : List A) → Rises key ys → ((y : A) → Contains ys y → key x ≢ key y) → (zs : List A) × Inserted key x ys zs
insert_into {A} key x [] r other = (
  x ∷ [],
  record {
    count = refl;
    rising = tt;
    from = λ z c. Contains-cons x [] z c;
    new = Contains-head x [];
    kept = λ y c. absurd (omega (arith, c.1));
  },
)
insert_into {A} key x (y ∷ ys) r other = by (insert_into key x ys (tail_rises key y ys r) (λ z c. other z (Contains-tail y ys z c))) (slice_cmp nat_cmp (key x) (key y)) refl
  where
    by : (zs : List A) × Inserted key x ys zs → (o : Ordering) → slice_cmp nat_cmp (key x) (key y) ≡ o → (zs : List A) × Inserted key x (y ∷ ys) zs
    by rest Less e = (
      x ∷ y ∷ ys,
      record {
        count = refl;
        rising = (e, r);
        from = λ z c. Contains-cons x (y ∷ ys) z c;
        new = Contains-head x (y ∷ ys);
        kept = λ z c. Contains-tail x (y ∷ ys) z c;
      },
    )
    by rest Equal e = absurd (other y (Contains-head y ys) ((bytes_decides (key x) (key y)).0 (texts_ties (key x) (key y) ∙ ap is_eq e)))
    by rest Greater e =
        let above : Below (key y) (key x) = nat_list_cmp_total.antisymm (key y) (key x) ∙ ap ordering_reverse e in (
          y ∷ rest.0,
          record {
            count = ap suc rest.1.count;
            rising = rises_cons key y rest.0 (λ z c. elim (rest.1.from z c) [
              | inl w ↦ subst (λ (v : A). Below (key y) (key v)) (sym w) above
              | inr w ↦ head_least key y ys r z w
            ]) rest.1.rising;
            from = λ z c. elim (Contains-cons y rest.0 z c) [
              | inl w ↦ inr (subst (Contains (y ∷ ys)) (sym w) (Contains-head y ys))
              | inr w ↦ elim (rest.1.from z w) [ inl v ↦ inl v | inr v ↦ inr (Contains-tail y ys z v) ]
            ];
            new = Contains-tail y rest.0 x rest.1.new;
            kept = λ z c. elim (Contains-cons y ys z c) [
              | inl w ↦ subst (Contains (y ∷ rest.0)) (sym w) (Contains-head y rest.0)
              | inr w ↦ Contains-tail y rest.0 z (rest.1.kept z w)
            ];
          },
        )

-- the same elements in order
pub record InOrder {A : Type 0} (key : A → List ℕ) (xs ys : List A) : Type 0 where
  pub count : length ys ≡ length xs
  pub sorted : SortedOf key xs ys

-- a list whose keys differ can be put in order
pub in_order : {A : Type 0} (key : A → List ℕ) (xs : List A) → Apart key xs → (ys : List A) × InOrder key xs ys
in_order key [] a = ([], record { count = refl; sorted = record { rising = tt; from = λ x c. c; kept = λ x c. c } })
in_order {A} key (x ∷ xs) a =
    let rest = in_order key xs a.1 in
    let all = insert_into key x rest.0 rest.1.sorted.rising (λ y c. a.0 y (rest.1.sorted.from y c)) in (
      all.0,
      record {
        count = all.1.count ∙ ap suc rest.1.count;
        sorted = record {
          rising = all.1.rising;
          from = λ z c. elim (all.1.from z c) [
            | inl w ↦ subst (Contains (x ∷ xs)) (sym w) (Contains-head x xs)
            | inr w ↦ Contains-tail x xs z (rest.1.sorted.from z w)
          ];
          kept = λ z c. elim (Contains-cons x xs z c) [
            | inl w ↦ subst (Contains all.0) (sym w) all.1.new
            | inr w ↦ all.1.kept z (rest.1.sorted.kept z w)
          ];
        };
      },
    )

-- what a name index holds is in a walk of it, and nothing else
pub record Walked (index : Names) (listed : List Line) : Type 0 where
  pub apart : Apart name_of listed
  pub each : (x : Line) → Contains listed x → name_at index x.0 ≡ Some (x.1, x.2)
  pub all : (x : Line) → name_at index x.0 ≡ Some (x.1, x.2) → Contains listed x

pub names_walked : (index : Names) (listed : List Line) → HasNames index listed → Walked index listed
names_walked index listed l = record {
  apart = apart_names listed l.once;
  each = λ x c. All-contains (λ (e : Line). name_at index e.0 ≡ Some (e.1, e.2)) listed x l.each c;
  all = λ x h. (
      let r = from_map name_of listed x.0 (l.all x.0 (subst (λ (o : Option (ℕ × ℕ)). IsSome o) (sym h) refl)) in
      let here = All-contains (λ (e : Line). name_at index e.0 ≡ Some (e.1, e.2)) listed r.0 l.each r.1 in
      let there : name_at index r.0.0 ≡ Some (x.1, x.2) = ap (name_at index) (sym r.2) ∙ h in
      let mine : ℕ × ℕ = (r.0.1, r.0.2) in
      let its : ℕ × ℕ = (x.1, x.2) in
      let same = some_is mine its (name_at index r.0.0) here there in
      subst (Contains listed) (λ k. (sym r.2 k, (same k).0, (same k).1)) r.1);
}
