-- The piece that a page stands in, by the pages where pieces begin.
use Rattle.std.proofs.Common.{◌≡◌, ◌≢◌, ◌∙◌, ◌<◌, ◌≤◌, ◌++◌, ℕ, zero, suc, Bool, true, false, cond, if◌then◌else◌, List, [], ◌∷◌, Option, Some, None, unwrap_or, refl, ap, sym, subst, arith, inl, inr}
use Rattle.std.specs.Prelude.{IfNone, IfSome, IsTrue}
use Rattle.std.specs.declared.ops.Bound.TheVariants.{Included, Unbounded}
use Rattle.std.specs.Ordering.{nat_cmp, is_lt, is_gt}
use Rattle.std.specs.declared.cmp.Ordering.TheVariants.{Less, Equal, Greater}
use Rattle.std.specs.Cmp.{nat_cmp_is}
use Rattle.std.specs.BTreeMap.{BTreeMap}
use Rattle.std.specs.BTreeMap.Range.{IsRangeOf}
use Rattle.std.proofs.lemmas.Bool.{cases_lt, cases_order, false≢true}
use Rattle.nv_inspect.specs.declared.pieces.Piece.{Piece}
use Rattle.nv_inspect.proofs.Among.{among_behind, among_both, among_front, among_open, among_to, is_among_split}
use Rattle.nv_inspect.specs.Held.{value_at, key_at, no_piece, piece_at, is_among}

module _ {V : Type 0} (none : V) where
  -- where one begins
  pub here : (keys : ℕ → Option V) (p : ℕ) (v : V) → keys p ≡ Some v → value_at none keys p ≡ v
  here keys zero v at = ap (λ (o : Option V). unwrap_or o none) at
  here keys (suc p) v at = ap (λ (o : Option V). unwrap_or o (value_at none keys p)) at

  -- as far as none begins
  pub stays : (keys : ℕ → Option V) (p q : ℕ) → p ≤ q → ((r : ℕ) → p < r → r ≤ q → keys r ≡ None) → value_at none keys q ≡ value_at none keys p
  stays keys p zero from never = (let place : zero ≡ p = omega (arith, from) in ap (value_at none keys) place)
  stays keys p (suc q) from never = elim (cases_lt q p) [
    | inl less ↦ (let place : suc q ≡ p = omega (arith, from, less) in ap (value_at none keys) place)
    | inr more ↦ ap (λ (o : Option V). unwrap_or o (value_at none keys q)) (never (suc q) (omega (arith, more)) (omega arith)) ∙ stays keys p q more (λ r over to. never r over (omega (arith, to)))
  ]

  pub nowhere : (keys : ℕ → Option V) (p : ℕ) → ((q : ℕ) → q ≤ p → keys q ≡ None) → value_at none keys p ≡ none
  nowhere keys zero never = ap (λ (o : Option V). unwrap_or o none) (never zero (omega arith))
  nowhere keys (suc p) never = ap (λ (o : Option V). unwrap_or o (value_at none keys p)) (never (suc p) (omega arith)) ∙ nowhere keys p (λ q to. never q (omega (arith, to)))

  -- the same begin up to a page
  pub same_front : (keys other : ℕ → Option V) (p : ℕ) → ((q : ℕ) → q ≤ p → keys q ≡ other q) → value_at none keys p ≡ value_at none other p
  same_front keys other zero same = ap (λ (o : Option V). unwrap_or o none) (same zero (omega arith))
  same_front keys other (suc p) same =
      ap (λ (o : Option V). unwrap_or o (value_at none keys p)) (same (suc p) (omega arith))
      ∙ ap (λ (v : V). unwrap_or (other (suc p)) v) (same_front keys other p (λ q to. same q (omega (arith, to))))

  -- a page stands in the same, and the same begin behind it
  pub same_behind : (keys other : ℕ → Option V) (e p : ℕ) → e ≤ p → value_at none keys e ≡ value_at none other e → ((q : ℕ) → e < q → keys q ≡ other q) → value_at none keys p ≡ value_at none other p
  same_behind keys other e zero from at same = (let place : e ≡ zero = omega (arith, from) in subst (λ (n : ℕ). value_at none keys n ≡ value_at none other n) place at)
  same_behind keys other e (suc p) from at same = elim (cases_lt p e) [
    | inl less ↦ (let place : e ≡ suc p = omega (arith, from, less) in subst (λ (n : ℕ). value_at none keys n ≡ value_at none other n) place at)
    | inr more ↦ ap (λ (o : Option V). unwrap_or o (value_at none keys p)) (same (suc p) (omega (arith, more)))
        ∙ ap (λ (v : V). unwrap_or (other (suc p)) v) (same_behind keys other e p more at same)
  ]

  -- All pages from the first on get a value.
  pub set_open : (old mid new : ℕ → Option V) (first : ℕ) (v : V) → ((q : ℕ) → IsTrue (is_among first None q) → mid q ≡ None) → ((q : ℕ) → is_among first None q ≢ true → mid q ≡ old q)
      → value_at none new first ≡ v → ((q : ℕ) → q ≢ first → new q ≡ mid q) → (p : ℕ) → value_at none new p ≡ (if is_among first None p then v else value_at none old p)
  set_open old mid new first v cleared others at put p = elim (cases_lt p first) [
    | inl less ↦ (let out = among_front first None p less in
        same_front new old p (λ q to. put q (λ e. omega (arith, e, to, less)) ∙ others q (λ e. (let from = (is_among_split first None q e).0 in omega (arith, from, to, less))))
        ∙ sym (ap (λ (t : Bool). cond t v (value_at none old p)) out))
    | inr from ↦ (let inside = among_open first p from in
        stays new first p from (λ r over to. put r (λ e. omega (arith, e, over)) ∙ cleared r (among_open first r (omega (arith, over))))
        ∙ at ∙ sym (ap (λ (t : Bool). cond t v (value_at none old p)) inside))
  ]

  -- The pages from the first on and before an end get a value, and the others keep theirs.
  module _ (old mid mid2 new : ℕ → Option V) (first end : ℕ) (v : V) (some : first < end)
      (cleared : (q : ℕ) → IsTrue (is_among first (Some end) q) → mid q ≡ None) (others : (q : ℕ) → is_among first (Some end) q ≢ true → mid q ≡ old q)
      (at : value_at none mid2 first ≡ v) (put : (q : ℕ) → q ≢ first → mid2 q ≡ mid q)
      (behind : value_at none new end ≡ value_at none old end) (put_behind : (q : ℕ) → q ≢ end → new q ≡ mid2 q) where
    outside : (q : ℕ) → q ≢ first → q ≢ end → is_among first (Some end) q ≢ true → new q ≡ old q
    outside q a b out = put_behind q b ∙ put q a ∙ others q out

    new_first : value_at none new first ≡ v
    new_first = same_front new mid2 first (λ q to. put_behind q (λ e. omega (arith, e, to, some))) ∙ at

    pub set_closed : (p : ℕ) → value_at none new p ≡ (if is_among first (Some end) p then v else value_at none old p)
    set_closed p = elim (cases_lt p first) [
      | inl less ↦ (let out = among_front first (Some end) p less in
          same_front new old p (λ q to. outside q (λ e. omega (arith, e, to, less)) (λ e. omega (arith, e, to, less, some)) (λ e. (let from = (is_among_split first (Some end) q e).0 in omega (arith, from, to, less))))
          ∙ sym (ap (λ (t : Bool). cond t v (value_at none old p)) out))
      | inr from ↦ elim (cases_lt p end) [
        | inl below ↦ (let inside = among_both first end p from below in
            stays new first p from (λ r over to. put_behind r (λ e. omega (arith, e, to, below)) ∙ put r (λ e. omega (arith, e, over)) ∙ cleared r (among_both first end r (omega (arith, from, over)) (omega (arith, to, below))))
            ∙ new_first ∙ sym (ap (λ (t : Bool). cond t v (value_at none old p)) inside))
        | inr past ↦ (let out = among_behind first end p past in
            same_behind new old end p past behind (λ q over. outside q (λ e. omega (arith, e, over, some)) (λ e. omega (arith, e, over)) (λ e. (let below = among_to first end q e in omega (arith, below, over))))
            ∙ sym (ap (λ (t : Bool). cond t v (value_at none old p)) out))
      ]
    ]

-- ---- what a range of the map says

le_from : (x y : ℕ) → is_gt (nat_cmp x y) ≡ false → x ≤ y
le_from x y h = elim (cases_order x y) [
  | inl e ↦ omega (arith, e)
  | inr w ↦ elim w [
    | inl less ↦ omega (arith, less)
    | inr more ↦ absurd (let is : Greater ≡ nat_cmp x y = nat_cmp_is x y Greater more in false≢true (sym h ∙ ap is_gt (sym is)))
  ]
]

le_to : (x y : ℕ) → x ≤ y → is_gt (nat_cmp x y) ≡ false
le_to x y h = elim (cases_order x y) [
  | inl e ↦ ap is_gt (sym (nat_cmp_is x y Equal e))
  | inr w ↦ elim w [
    | inl less ↦ ap is_gt (sym (nat_cmp_is x y Less less))
    | inr more ↦ absurd (omega (arith, h, more))
  ]
]

module _ (pieces : BTreeMap ℕ Piece) (page : ℕ) (r : List (ℕ × Piece)) (range : IsRangeOf nat_cmp Unbounded (Included page) pieces r) where
  pub last_piece : (t : List (ℕ × Piece)) (e : ℕ × Piece) → r ≡ t ++ e ∷ [] → piece_at pieces.entries page ≡ e.1
  last_piece t e is =
      let inside = range.3 e t is in
      let from : e.0 ≤ page = le_from e.0 page inside.0.1 in
      stays no_piece (key_at pieces.entries) e.0 page from (λ q over to.
      elim (key_at pieces.entries q) as (λ (o : Option Piece). key_at pieces.entries q ≡ o → o ≡ None) [
        | None ↦ λ h. refl
        | Some b ↦ λ h. absurd (
            let past : is_lt (nat_cmp e.0 q) ≡ false = range.4 e t is q (tt, le_to q page to) (rw h refl) in
            let less : Less ≡ nat_cmp e.0 q = nat_cmp_is e.0 q Less over in
            false≢true (sym past ∙ ap is_lt (sym less)))
      ] refl)
      ∙ here no_piece (key_at pieces.entries) e.0 e.1 inside.1

  pub no_piece_yet : r ≡ [] → piece_at pieces.entries page ≡ no_piece
  no_piece_yet is = nowhere no_piece (key_at pieces.entries) page (λ q to. range.5 is q (tt, le_to q page to))

-- ---- what the next piece says

pub same_to : (pieces : List (ℕ × Piece)) (page : ℕ) (end : Option ℕ) → IfSome end (λ next. (page < next) × ((q : ℕ) → page < q → q < next → key_at pieces q ≡ None)) → IfNone end ((q : ℕ) → page < q → key_at pieces q ≡ None)
    → (p : ℕ) → IsTrue (is_among page end p) → piece_at pieces p ≡ piece_at pieces page
same_to pieces page None some without p among = stays no_piece (key_at pieces) page p (is_among_split page None p among).0 (λ r over to. without r over)
same_to pieces page (Some next) some without p among = stays no_piece (key_at pieces) page p (is_among_split page (Some next) p among).0
    (λ r over to. some.1 r over (let below = among_to page next p among in omega (arith, to, below)))

pub if_none : {T : Type 0} (o : Option T) (P : Type 0) → P → IfNone o P
if_none None P p = p
if_none (Some t) P p = tt

pub no_pieces : (pieces : List (ℕ × Piece)) → pieces ≡ [] → (p : ℕ) → piece_at pieces p ≡ no_piece
no_pieces pieces empty p = ap (λ (es : List (ℕ × Piece)). piece_at es p) empty ∙ nowhere no_piece (key_at []) p (λ q to. refl)
