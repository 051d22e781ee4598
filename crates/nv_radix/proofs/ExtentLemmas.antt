-- The extents of a map with a run of pages more.
use Rattle.std.proofs.Common.{◌≡◌, ℕ, ◌+◌, ◌-◌, ◌<◌, ◌≤◌, Bool, true, false, cond, length, get_or, take, ◌++◌, List, [], ◌∷◌, Option, Some, None, IsSome, refl, ap, sym, ◌∙◌, subst, arith, suc, inl, inr, ◌⊎◌}
use Rattle.std.proofs.Math.ListN.{set}
use Rattle.std.specs.List.{All}
use Rattle.std.proofs.lemmas.Bool.{cases_lt, cases_order, false≢true}
use Rattle.std.proofs.lemmas.Bool.Decides.{nat_tests}
use Rattle.std.proofs.lemmas.List.{get_or_append_left, get_or_push, length_push, take_all, take_more, take_more_set, length-set}
use Rattle.std.proofs.lemmas.List.Elements.{All-push, All-nil, All-weaker, Contains-append_left, Contains-push, Contains-push_cases}
use Rattle.nv_radix.specs.declared.extent.Extent.{Extent}
use Rattle.nv_radix.specs.Pages.{Pages, block_at, in_run}
use Rattle.nv_radix.specs.Extents.{IsMapped, HasPage, IsApart, AreApart, AreExtents, HasRunBehind}
use Rattle.nv_radix.specs.Rising.{Rises}
use Rattle.nv_radix.proofs.Mapped.{block_at-push_same, block_at-push_below, block_at-push_above, block_at-push_none}
use Rattle.nv_radix.proofs.Rising.{block_at-above}

All-front : {X : Type 0} (P : X → Type 0) (xs : List X) (x : X) → All P (xs ++ x ∷ []) → All P xs
All-front P xs x h = λ k d l. subst P (get_or_append_left xs (x ∷ []) d k l) (h k d (omega (arith, length_push xs x, l)))

All-last : {X : Type 0} (P : X → Type 0) (xs : List X) (x : X) → All P (xs ++ x ∷ []) → P x
All-last P xs x h = subst P (get_or_push xs x x (length xs) refl) (h (length xs) x (omega (arith, length_push xs x)))

-- one page more at the end of a map is a run more
pub one_more : (m : Pages) (p b : ℕ) → Rises 0 p m → HasRunBehind m (m ++ (p, Some b) ∷ []) (record { page = p; count = 1; block = b })
one_more m p b h = record {
  behind = λ q l. block_at-above 0 p m q h l;
  set = λ q. elim (cases_order q p) [
    | inl e ↦ rw (e, itself p, no_step b p) (block_at-push_same m p (Some b) h)
    | inr w ↦ elim w [
      | inl l ↦ rw (before p q l) (block_at-push_below m p q (Some b) l)
      | inr l ↦ rw (past p q l) (block_at-push_above m p q (Some b) h l ∙ sym (block_at-above 0 p m q h (omega (arith, l))))
    ]
  ];
}
  where
    itself : (p : ℕ) → in_run p 1 p ≡ true
    itself p = grind (arith, nat_tests)

    before : (p q : ℕ) → q < p → in_run p 1 q ≡ false
    before p q l = grind (arith, nat_tests)

    past : (p q : ℕ) → p < q → in_run p 1 q ≡ false
    past p q l = grind (arith, nat_tests)

    no_step : (b p : ℕ) → b + (p - p) ≡ b
    no_step b p = omega arith

pub AreExtents-nil : AreExtents [] []
AreExtents-nil = record { some = All-nil _; mapped = All-nil _; whole = λ p h. absurd (false≢true h); apart = tt }

-- maps that show the same have the same extents
pub AreExtents-same : (m n : Pages) (extents : List Extent) → ((p : ℕ) → block_at m p ≡ block_at n p) → AreExtents m extents → AreExtents n extents
AreExtents-same m n extents same a = record {
  some = a.some;
  mapped = All-weaker (IsMapped m) (IsMapped n) (λ x w j l. sym (same (x.page + j)) ∙ w j l) extents a.mapped;
  whole = λ q h. a.whole q (subst (λ (o : Option ℕ). IsSome o) (sym (same q)) h);
  apart = a.apart;
}

-- a page with no block adds nothing
pub AreExtents-skip : (m : Pages) (p : ℕ) (extents : List Extent) → AreExtents m extents → AreExtents (m ++ (p, None) ∷ []) extents
AreExtents-skip m p extents a = AreExtents-same m (m ++ (p, None) ∷ []) extents (λ q. sym (block_at-push_none m p q)) a

-- a longer last extent stands apart as the old one did
AreApart-longer : (extents : List Extent) (x y : Extent) → y.page ≡ x.page → y.block ≡ x.block → AreApart (extents ++ x ∷ []) → AreApart (extents ++ y ∷ [])
AreApart-longer [] x y e f a = tt
AreApart-longer (z ∷ []) x y e f a = (record { rises = rw e a.0.rises; breaks = rw (e, f) a.0.breaks }, tt)
AreApart-longer (z ∷ u ∷ extents) x y e f a = (a.0, AreApart-longer (u ∷ extents) x y e f a.1)

AreApart-push : (extents : List Extent) (y : Extent) → AreApart extents → ((d : Extent) → 0 < length extents → IsApart (get_or extents (length extents - 1) d) y) → AreApart (extents ++ y ∷ [])
AreApart-push [] y a last = tt
AreApart-push (x ∷ []) y a last = (last x (omega arith), tt)
AreApart-push (x ∷ z ∷ extents) y a last = (a.0, AreApart-push (z ∷ extents) y a.1 (λ d l. subst (λ k. IsApart (get_or (x ∷ z ∷ extents) k d) y) (at_end (length extents)) (last d (omega arith))))
  where
    at_end : (n : ℕ) → suc (suc n) - 1 ≡ suc (suc n - 1)
    at_end n = omega arith

-- a list by its last element
last_split : {X : Type 0} (xs : List X) (n : ℕ) (x : X) → length xs ≡ n + 1 → x ≡ get_or xs n x → xs ≡ take n xs ++ x ∷ []
last_split xs n x l e = sym (take_all (n + 1) xs (omega (arith, l))) ∙ take_more xs n x (omega (arith, l)) ∙ ap (λ y. take n xs ++ y ∷ []) (sym e)

last_set : {X : Type 0} (xs : List X) (n : ℕ) (y : X) → length xs ≡ n + 1 → set xs n y ≡ take n xs ++ y ∷ []
last_set xs n y l = sym (take_all (n + 1) (set xs n y) (omega (arith, l, length-set xs n y))) ∙ take_more_set xs n y (omega (arith, l))

within_run : (page count j : ℕ) → j < count → in_run page count (page + j) ≡ true
within_run page count j l = grind (arith, nat_tests)

before_run : (page count p : ℕ) → p < page → in_run page count p ≡ false
before_run page count p l = grind (arith, nat_tests)

has_page : (page count p : ℕ) → in_run page count p ≡ true → (page ≤ p) × (p < page + count)
has_page page count p e = (grind (arith, nat_tests), grind (arith, nat_tests))

step_back : (block page j : ℕ) → block + (page + j - page) ≡ block + j
step_back block page j = omega arith

module _ (m n : Pages) (r : Extent) (h : HasRunBehind m n r) where
  new_page : (j : ℕ) → j < r.count → block_at n (r.page + j) ≡ Some (r.block + j)
  new_page j l = h.set (r.page + j) ∙ rw (within_run r.page r.count j l, step_back r.block r.page j) refl

  mapped_before : (p b : ℕ) → block_at m p ≡ Some b → p < r.page
  mapped_before p b e = elim (cases_lt p r.page) [ inl l ↦ l | inr l ↦ absurd (let none = h.behind p l in cc) ]

  -- an extent of the map is one of the longer map
  still_mapped : (x : Extent) → IsMapped m x → IsMapped n x
  still_mapped x w = λ j l. h.set (x.page + j) ∙ rw (before_run r.page r.count (x.page + j) (mapped_before (x.page + j) (x.block + j) (w j l))) (w j l)

  -- an extent ends before the run begins
  ends_before : (x : Extent) → 0 < x.count → IsMapped m x → x.page + x.count ≤ r.page
  ends_before x some w = (let last = mapped_before (x.page + (x.count - 1)) (x.block + (x.count - 1)) (w (x.count - 1) (omega (arith, some))) in omega (arith, last, some))

  -- a page of the longer map is one of the run or an old one
  page_cases : (q : ℕ) → IsSome (block_at n q) → HasPage r q ⊎ IsSome (block_at m q)
  page_cases q some = elim (in_run r.page r.count q) as (λ (t : Bool). in_run r.page r.count q ≡ t → IsSome (cond t (Some (r.block + (q - r.page))) (block_at m q)) → HasPage r q ⊎ IsSome (block_at m q)) [
    | true ↦ λ e old. inl (has_page r.page r.count q e)
    | false ↦ λ e old. inr old
  ] refl (subst (λ (o : Option ℕ). IsSome o) (h.set q) some)

  -- the last extent, longer by the run
  AreExtents-longer : (front : List Extent) (x y : Extent) → AreExtents m (front ++ x ∷ []) → x.page + x.count ≡ r.page → x.block + x.count ≡ r.block → y.page ≡ x.page → y.block ≡ x.block → y.count ≡ x.count + r.count → AreExtents n (front ++ y ∷ [])
  AreExtents-longer front x y a page block same_page same_block size = record {
    some = All-push (λ (z : Extent). 0 < z.count) front y (All-front (λ (z : Extent). 0 < z.count) front x a.some) (let old = All-last (λ (z : Extent). 0 < z.count) front x a.some in omega (arith, size, old));
    mapped = All-push (IsMapped n) front y (All-weaker (IsMapped m) (IsMapped n) still_mapped front (All-front (IsMapped m) front x a.mapped)) longer;
    whole = λ q some. elim (page_cases q some) [
      | inl e ↦ (y, Contains-push front y, (omega (arith, e.0, page, same_page), omega (arith, e.1, page, same_page, size)))
      | inr old ↦ (let w = a.whole q old in elim (Contains-push_cases front x w.0 w.1) [
        | inl c ↦ (w.0, Contains-append_left front (y ∷ []) w.0 c, w.2)
        | inr e ↦ (let is : HasPage x q = subst (λ (z : Extent). HasPage z q) (sym e) w.2 in (y, Contains-push front y, (omega (arith, is.0, same_page), omega (arith, is.1, same_page, size))))
      ])
    ];
    apart = AreApart-longer front x y same_page same_block a.apart;
  }
    where
      longer : IsMapped n y
      longer j l = elim (cases_lt j x.count) [
        | inl v ↦ rw (same_page, same_block) (still_mapped x (All-last (IsMapped m) front x a.mapped) j v)
        | inr v ↦
            let at : r.page + (j - x.count) ≡ y.page + j = omega (arith, v, page, same_page) in
            let to : r.block + (j - x.count) ≡ y.block + j = omega (arith, v, block, same_block) in
            subst (λ (p : ℕ). block_at n p ≡ Some (y.block + j)) at (new_page (j - x.count) (omega (arith, v, l, size)) ∙ ap Some to)
      ]

  -- the run as an extent behind the others
  pub AreExtents-push : (extents : List Extent) → 0 < r.count → AreExtents m extents → ((d : Extent) → 0 < length extents → (get_or extents (length extents - 1) d).page + (get_or extents (length extents - 1) d).count ≡ r.page → (get_or extents (length extents - 1) d).block + (get_or extents (length extents - 1) d).count ≡ r.block → ⊥) → AreExtents n (extents ++ r ∷ [])
  AreExtents-push extents some a other = record {
    some = All-push (λ (z : Extent). 0 < z.count) extents r a.some some;
    mapped = All-push (IsMapped n) extents r (All-weaker (IsMapped m) (IsMapped n) still_mapped extents a.mapped) new_page;
    whole = λ q some. elim (page_cases q some) [
      | inl e ↦ (r, Contains-push extents r, e)
      | inr old ↦ (let w = a.whole q old in (w.0, Contains-append_left extents (r ∷ []) w.0 w.1, w.2))
    ];
    apart = AreApart-push extents r a.apart (λ d l. record {
      rises = ends_before (get_or extents (length extents - 1) d) (a.some (length extents - 1) d (omega (arith, l))) (a.mapped (length extents - 1) d (omega (arith, l)));
      breaks = λ e f. other d l e f;
    });
  }

  -- the last extent of a list, longer by the run
  pub AreExtents-set_last : (extents : List Extent) (k : ℕ) (x y : Extent) → AreExtents m extents → length extents ≡ k + 1 → x ≡ get_or extents k x → x.page + x.count ≡ r.page → x.block + x.count ≡ r.block → y.page ≡ x.page → y.block ≡ x.block → y.count ≡ x.count + r.count → AreExtents n (set extents k y)
  AreExtents-set_last extents k x y a l e page block same_page same_block size =
      subst (AreExtents n) (sym (last_set extents k y l)) (AreExtents-longer (take k extents) x y (subst (AreExtents m) (last_split extents k x l e) a) page block same_page same_block size)
