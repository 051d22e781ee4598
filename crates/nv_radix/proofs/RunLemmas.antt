-- What a change of one run makes of the blocks that pages map to.
use Rattle.std.proofs.Common.{◌≡◌, ◌≢◌, ℕ, ◌+◌, ◌-◌, ◌<◌, ◌≤◌, Bool, true, false, cond, ◌==◌, if◌then◌else◌, [], ◌∷◌, Option, Some, None, Result, Ok, Err, refl, ap, sym, ◌∙◌, subst, arith, suc, inl, inr}
use Rattle.std.specs.Result.{OnOk, OnErr}
use Rattle.std.specs.List.{Contains}
use Rattle.std.specs.Ordering.{nat_cmp, eq_by_cmp}
use Rattle.std.specs.Cmp.{unsigned_tied}
use Rattle.std.proofs.lemmas.Bool.{cases_eq, cases_lt, cases_order, eqb-true}
use Rattle.std.proofs.lemmas.Bool.Decides.{nat_tests}
use Rattle.std.proofs.lemmas.Cmp.{nat_cmp_total, eq_by_cmp_equiv}
use Rattle.std.proofs.lemmas.Map.Keys.{IsDistinct-from_sorted}
use Rattle.std.proofs.lemmas.Map.Views.{lookup-from_Contains, Contains-from_lookup}
use Rattle.std.proofs.lemmas.Option.{same_Some}
use Rattle.nv_radix.specs.declared.runs.Blocks.{Blocks}
use Rattle.nv_radix.specs.Pages.{in_run}
use Rattle.nv_radix.specs.Runs.{Runs, block_by, run_at, front_of, IsRun, AreRuns, Puts}
use Rattle.nv_radix.proofs.OnlyExtents.{Contains-cons}

-- what holds after a success, and after an error
pub either_way : {A E : Type 0} (r : Result A E) (P Q R : Type 0) → OnOk r P → OnErr r Q → (P → R) → (Q → R) → R
either_way (Ok a) P Q R p q f g = f p
either_way (Err e) P Q R p q f g = g q

-- the run that maps a page to a block
pub record HasRun (runs : Runs) (p b : ℕ) : Type 0 where
  pub first : ℕ
  pub blocks : Blocks
  pub at : run_at runs first ≡ Some blocks
  pub within : in_run first blocks.count p ≡ true
  pub is : blocks.start + (p - first) ≡ b

-- the same among the entries
abbrev Listed : Runs → ℕ → ℕ → Type 0
Listed runs p b = (x : ℕ × Blocks) × Contains runs x × (in_run x.0 x.1.count p ≡ true) × (x.1.start + (p - x.0) ≡ b)

listed : (runs : Runs) (p b : ℕ) → block_by runs p ≡ Some b → Listed runs p b
listed [] p b h = absurd (cc)
listed (x ∷ xs) p b h = test (listed xs p b) (in_run x.0 x.1.count p) refl h where
  test : (block_by xs p ≡ Some b → Listed xs p b) → (t : Bool) → in_run x.0 x.1.count p ≡ t → cond t (Some (x.1.start + (p - x.0))) (block_by xs p) ≡ Some b → Listed (x ∷ xs) p b
  test more true e g = (x, (0, omega arith, refl), e, same_Some _ _ g)
  test more false e g = let w = more g in (w.0, (suc w.1.0, omega (arith, w.1.1), w.1.2), w.2, w.3)

-- a page that maps to nothing stands in no entry
unlisted : (runs : Runs) (p : ℕ) → block_by runs p ≡ None → (x : ℕ × Blocks) → Contains runs x → in_run x.0 x.1.count p ≡ false
unlisted [] p h x c = absurd (omega (arith, c.1))
unlisted (y ∷ ys) p h x c = test (λ g w. unlisted ys p g x w) (in_run y.0 y.1.count p) refl h where
  test : (block_by ys p ≡ None → Contains ys x → in_run x.0 x.1.count p ≡ false) → (t : Bool) → in_run y.0 y.1.count p ≡ t → cond t (Some (y.1.start + (p - y.0))) (block_by ys p) ≡ None → in_run x.0 x.1.count p ≡ false
  test more true e g = absurd (cc)
  test more false e g = elim (Contains-cons y ys x c) [ inl w ↦ rw w e | inr w ↦ more g w ]

pub found : (runs : Runs) (p b : ℕ) → AreRuns runs → block_by runs p ≡ Some b → HasRun runs p b
found runs p b are h = let w = listed runs p b h in record {
  first = w.0.0;
  blocks = w.0.1;
  at = lookup-from_Contains (eq_by_cmp_equiv nat_cmp_total) w.0.0 w.0.1 runs (IsDistinct-from_sorted nat_cmp _ are.rising) w.1;
  within = w.2;
  is = w.3;
}

-- a page that maps to nothing stands in no run
pub missed : (runs : Runs) (p k : ℕ) (b : Blocks) → block_by runs p ≡ None → run_at runs k ≡ Some b → in_run k b.count p ≡ false
missed runs p k b h at = unlisted runs p h (k, b) (Contains-from_lookup {eq = eq_by_cmp nat_cmp} same k b runs at) where
  same : (x y : ℕ) → eq_by_cmp nat_cmp x y ≡ true → x ≡ y
  same x y e = eqb-true x y (sym (unsigned_tied x y) ∙ e)

-- a page stands in one run at most
one_run : (runs : Runs) (p k l : ℕ) (b c : Blocks) → AreRuns runs → run_at runs k ≡ Some b → run_at runs l ≡ Some c → in_run k b.count p ≡ true → in_run l c.count p ≡ true → k ≡ l
one_run runs p k l b c are x y u v = elim (cases_order k l) [
  | inl e ↦ e
  | inr w ↦ elim w [
    | inl less ↦ absurd (let end = are.apart k l b c x y less in grind (arith, nat_tests, end))
    | inr less ↦ absurd (let end = are.apart l k c b y x less in grind (arith, nat_tests, end))
  ]
]

-- a page of a run maps to the run's block
pub mapped : (runs : Runs) (p k : ℕ) (b : Blocks) → AreRuns runs → run_at runs k ≡ Some b → in_run k b.count p ≡ true → block_by runs p ≡ Some (b.start + (p - k))
mapped runs p k b are at within = elim (block_by runs p) as (λ (o : Option ℕ). block_by runs p ≡ o → o ≡ Some (b.start + (p - k))) [
  | None ↦ λ h. absurd (let no = missed runs p k b h at in cc)
  | Some c ↦ λ h.
      let w = found runs p c are h in
      let same : w.first ≡ k = one_run runs p w.first k w.blocks b are w.at at w.within within in
      let blocks : w.blocks ≡ b = same_Some _ _ (sym (subst (λ (q : ℕ). run_at runs q ≡ Some w.blocks) same w.at) ∙ at) in
      ap Some (sym w.is ∙ rw (same, blocks) refl)
] refl

-- the page is none of a run's, if there is one
abbrev Off : ℕ → Option Blocks → ℕ → Type 0
Off k w p = (b : Blocks) → w ≡ Some b → in_run k b.count p ≡ false

module _ {old new : Runs} {k : ℕ} {w : Option Blocks} (before : AreRuns old) (after : AreRuns new) (puts : Puts old new k w) where
  -- a page that is mapped, and not by the run that was put, is mapped by an old one
  stray : (p c : ℕ) → Off k w p → block_by new p ≡ Some c → (r : HasRun old p c) × (r.first ≢ k)
  stray p c off h =
      let r = found new p c after h in
      let other : r.first ≢ k = λ e. absurd (let no = off r.blocks (sym puts.here ∙ subst (λ (q : ℕ). run_at new q ≡ Some r.blocks) e r.at) in let yes = subst (λ (q : ℕ). in_run q r.blocks.count p ≡ true) e r.within in cc) in
      (record { first = r.first; blocks = r.blocks; at = sym (puts.others r.first other) ∙ r.at; within = r.within; is = r.is }, other)

  -- a page of neither the old run nor the new
  kept : (p : ℕ) → Off k (run_at old k) p → Off k w p → block_by new p ≡ block_by old p
  kept p was off = elim (block_by old p) as (λ (o : Option ℕ). block_by old p ≡ o → block_by new p ≡ o) [
    | Some c ↦ λ h.
        let r = found old p c before h in
        let other : r.first ≢ k = λ e. absurd (let no = was r.blocks (subst (λ (q : ℕ). run_at old q ≡ Some r.blocks) e r.at) in let yes = subst (λ (q : ℕ). in_run q r.blocks.count p ≡ true) e r.within in cc) in
        mapped new p r.first r.blocks after (puts.others r.first other ∙ r.at) r.within ∙ ap Some r.is
    | None ↦ λ h. elim (block_by new p) as (λ (o : Option ℕ). block_by new p ≡ o → o ≡ None) [
      | None ↦ λ g. refl
      | Some c ↦ λ g. absurd (let r = (stray p c off g).0 in let no = missed old p r.first r.blocks h r.at in let yes = r.within in cc)
    ] refl
  ] refl

  -- a page of the old run that is none of the new
  gone : (p : ℕ) (b : Blocks) → run_at old k ≡ Some b → in_run k b.count p ≡ true → Off k w p → block_by new p ≡ None
  gone p b at within off = elim (block_by new p) as (λ (o : Option ℕ). block_by new p ≡ o → o ≡ None) [
    | None ↦ λ g. refl
    | Some c ↦ λ g. absurd (let r = stray p c off g in r.1 (one_run old p r.0.first k r.0.blocks b before r.0.at at r.0.within within))
  ] refl

-- what the first pages of a run are
front_is : (b c : Blocks) (count : ℕ) → front_of b count ≡ Some c → (c.start ≡ b.start) × (c.count ≡ count)
front_is b c count h = test (count == 0) refl h where
  test : (t : Bool) → (count == 0) ≡ t → cond t None (Some (record { start = b.start; count = count })) ≡ Some c → (c.start ≡ b.start) × (c.count ≡ count)
  test true e g = absurd (cc)
  test false e g = let same = same_Some _ _ g in (ap (λ (x : Blocks). x.start) (sym same), ap (λ (x : Blocks). x.count) (sym same))

-- where the first pages of a run stay, the others map to nothing
pub after_front : (old new : Runs) (k count : ℕ) (b : Blocks) → AreRuns old → AreRuns new → run_at old k ≡ Some b → count ≤ b.count → Puts old new k (front_of b count)
    → (p : ℕ) → block_by new p ≡ (if in_run (k + count) (b.count - count) p then None else block_by old p)
after_front old new k count b before after at few puts p = elim (in_run (k + count) (b.count - count) p) as (λ (t : Bool). in_run (k + count) (b.count - count) p ≡ t → block_by new p ≡ cond t None (block_by old p)) [
  | true ↦ λ e. gone before after puts p b at (grind (arith, nat_tests)) (λ c h. let is = front_is b c count h in rw is.1 (grind (arith, nat_tests)))
  | false ↦ λ e. elim (in_run k b.count p) as (λ (t : Bool). in_run k b.count p ≡ t → block_by new p ≡ block_by old p) [
    | false ↦ λ f. kept before after puts p (λ c h. rw (same_Some c b (sym h ∙ at)) f) (λ c h. let is = front_is b c count h in rw is.1 (grind (arith, nat_tests)))
    | true ↦ λ f. mapped new p k (record { start = b.start; count = count }) after (puts.here ∙ some_front (grind (arith, nat_tests))) (grind (arith, nat_tests)) ∙ sym (mapped old p k b before at f)
  ] refl
] refl
  where
    some_front : 0 < count → front_of b count ≡ Some (record { start = b.start; count = count })
    some_front some = let no : (count == 0) ≡ false = grind (arith, nat_tests) in rw no refl

-- a run that would stand between those that end before it and those that begin behind it
record IsBetween (runs : Runs) (k : ℕ) (b : Blocks) : Type 0 where
  pub is : IsRun k b
  pub before : (q : ℕ) (c : Blocks) → q < k → run_at runs q ≡ Some c → q + c.count ≤ k
  pub behind : (q : ℕ) (c : Blocks) → k < q → run_at runs q ≡ Some c → k + b.count ≤ q

-- such a run is put, or none
put_between : (old new : Runs) (k : ℕ) (w : Option Blocks) → AreRuns old → ((b : Blocks) → w ≡ Some b → IsBetween old k b) → Puts old new k w → AreRuns new
put_between old new k w before fits puts = record { rising = puts.rising; each = each; apart = apart }
  where
    old_run : (q : ℕ) (c : Blocks) → q ≢ k → run_at new q ≡ Some c → run_at old q ≡ Some c
    old_run q c other h = sym (puts.others q other) ∙ h

    new_run : (q : ℕ) (c : Blocks) → q ≡ k → run_at new q ≡ Some c → IsBetween old k c
    new_run q c e h = fits c (sym puts.here ∙ subst (λ (n : ℕ). run_at new n ≡ Some c) e h)

    each : (q : ℕ) (c : Blocks) → run_at new q ≡ Some c → IsRun q c
    each q c h = elim (cases_eq q k) [
      | inl e ↦ rw e (new_run q c e h).is
      | inr other ↦ before.each q c (old_run q c other h)
    ]

    apart : (q l : ℕ) (c d : Blocks) → run_at new q ≡ Some c → run_at new l ≡ Some d → q < l → q + c.count ≤ l
    apart q l c d x y less = elim (cases_eq q k) [
      | inl e ↦ rw e ((new_run q c e x).behind l d (omega (arith, e, less)) (old_run l d (λ f. omega (arith, e, f, less)) y))
      | inr other ↦ elim (cases_eq l k) [
        | inl e ↦ rw e ((new_run l d e y).before q c (omega (arith, e, less)) (old_run q c other x))
        | inr also ↦ before.apart q l c d (old_run q c other x) (old_run l d also y) less
      ]
    ]

-- a run over pages that map to nothing stands apart from the others
pub put_free : (old new : Runs) (k : ℕ) (b : Blocks) → AreRuns old → IsRun k b → ((p : ℕ) → in_run k b.count p ≡ true → block_by old p ≡ None) → Puts old new k (Some b) → AreRuns new
put_free old new k b before is free puts = put_between old new k (Some b) before (λ c e. rw (same_Some c b (sym e)) (record { is = is; before = ends_before; behind = begins_behind })) puts
  where
    ends_before : (q : ℕ) (c : Blocks) → q < k → run_at old q ≡ Some c → q + c.count ≤ k
    ends_before q c less h =
        let no = missed old k q c (free k (let some = is.some in grind (arith, nat_tests))) h in
        grind (arith, nat_tests)

    begins_behind : (q : ℕ) (c : Blocks) → k < q → run_at old q ≡ Some c → k + b.count ≤ q
    begins_behind q c more h = elim (cases_lt q (k + b.count)) [
      | inr over ↦ over
      | inl under ↦ absurd (let no = missed old q q c (free q (grind (arith, nat_tests))) h in let some = (before.each q c h).some in grind (arith, nat_tests))
    ]

-- and its pages map to its blocks
pub after_put : (old new : Runs) (k : ℕ) (b : Blocks) → AreRuns old → AreRuns new → 0 < b.count → ((p : ℕ) → in_run k b.count p ≡ true → block_by old p ≡ None) → Puts old new k (Some b)
    → (p : ℕ) → block_by new p ≡ (if in_run k b.count p then Some (b.start + (p - k)) else block_by old p)
after_put old new k b before after some free puts p = elim (in_run k b.count p) as (λ (t : Bool). in_run k b.count p ≡ t → block_by new p ≡ cond t (Some (b.start + (p - k))) (block_by old p)) [
  | true ↦ λ e. mapped new p k b after puts.here e
  | false ↦ λ e. kept before after puts p none (λ c h. rw (same_Some c b (sym h)) e)
] refl
  where
    none : Off k (run_at old k) p
    none c h = absurd (
        let no = missed old k k c (free k (grind (arith, nat_tests))) h in
        let size : 0 < c.count = (before.each k c h).some in
        grind (arith, nat_tests))

-- the first pages of a run stand apart from the other runs as the run did
pub front_runs : (old new : Runs) (k count : ℕ) (b : Blocks) → AreRuns old → run_at old k ≡ Some b → count ≤ b.count → Puts old new k (front_of b count) → AreRuns new
front_runs old new k count b before at few puts = put_between old new k (front_of b count) before fits puts
  where
    some : (c : Blocks) → front_of b count ≡ Some c → 0 < count
    some c h = elim (cases_eq count 0) [ inl e ↦ absurd (let none : front_of b count ≡ None = rw e refl in cc) | inr more ↦ omega (arith, more) ]

    fits : (c : Blocks) → front_of b count ≡ Some c → IsBetween old k c
    fits c h = let front = front_is b c count h in let more = some c h in let is = before.each k b at in record {
      is = record { some = omega (arith, front.1, more); pages = omega (arith, front.1, few, is.pages); blocks = omega (arith, front.0, front.1, few, is.blocks) };
      before = λ q d less x. before.apart q k d b x at less;
      behind = λ q d more x. (let end = before.apart k q b d at x more in omega (arith, end, front.1, few));
    }

-- A run that takes the place of one of the very same pages.
module _ (old new : Runs) (k : ℕ) (b c : Blocks) (before : AreRuns old) (is : IsRun k b) (at : run_at old k ≡ Some c) (same : c.count ≡ b.count) (puts : Puts old new k (Some b)) where
  pub replaced_runs : AreRuns new
  replaced_runs = put_between old new k (Some b) before (λ d e. rw (same_Some d b (sym e)) (record {
    is = is;
    before = λ q f less h. before.apart q k f c h at less;
    behind = λ q f more h. (let end = before.apart k q c f at h more in omega (arith, end, same));
  })) puts

  pub replaced : (p : ℕ) → block_by new p ≡ (if in_run k b.count p then Some (b.start + (p - k)) else block_by old p)
  replaced p = elim (in_run k b.count p) as (λ (t : Bool). in_run k b.count p ≡ t → block_by new p ≡ cond t (Some (b.start + (p - k))) (block_by old p)) [
    | true ↦ λ e. mapped new p k b replaced_runs puts.here e
    | false ↦ λ e. kept before replaced_runs puts p (λ d h. rw (same_Some d c (sym h ∙ at), same) e) (λ d h. rw (same_Some d b (sym h)) e)
  ] refl

-- The last run is made longer by one that it goes on with.
module _ (old new : Runs) (k page : ℕ) (b c : Blocks) (before : AreRuns old) (is : IsRun page c) (at : run_at old k ≡ Some b) (ends : k + b.count ≡ page) (follows : b.start + b.count ≡ c.start)
    (end : (p : ℕ) → page ≤ p → block_by old p ≡ None) (puts : Puts old new k (Some (record { start = b.start; count = b.count + c.count }))) where
  abbrev joined : Blocks
  joined = record { start = b.start; count = b.count + c.count }

  pub longer_runs : AreRuns new
  longer_runs = put_between old new k (Some joined) before (λ d e. rw (same_Some d joined (sym e)) (record {
    is = record { some = omega (arith, is.some); pages = omega (arith, is.pages, ends); blocks = omega (arith, is.blocks, follows) };
    before = λ q f less h. before.apart q k f b h at less;
    behind = λ q f more h. absurd (
        let past = before.apart k q b f at h more in
        let no = missed old q q f (end q (omega (arith, past, ends))) h in
        let some = (before.each q f h).some in
        grind (arith, nat_tests));
  })) puts

  pub longer : (p : ℕ) → block_by new p ≡ (if in_run page c.count p then Some (c.start + (p - page)) else block_by old p)
  longer p = elim (in_run page c.count p) as (λ (t : Bool). in_run page c.count p ≡ t → block_by new p ≡ cond t (Some (c.start + (p - page))) (block_by old p)) [
    | true ↦ λ e.
        let from : page ≤ p = grind (arith, nat_tests) in
        mapped new p k joined longer_runs puts.here (grind (arith, nat_tests)) ∙ ap Some (omega (arith, from, ends, follows))
    | false ↦ λ e. elim (in_run k b.count p) as (λ (t : Bool). in_run k b.count p ≡ t → block_by new p ≡ block_by old p) [
      | true ↦ λ f. mapped new p k joined longer_runs puts.here (grind (arith, nat_tests)) ∙ sym (mapped old p k b before at f)
      | false ↦ λ f. kept before longer_runs puts p (λ d h. rw (same_Some d b (sym h ∙ at)) f) (λ d h. rw (same_Some d joined (sym h)) (grind (arith, nat_tests)))
    ] refl
  ] refl

-- A run is put behind all others.
module _ (old new : Runs) (page : ℕ) (c : Blocks) (before : AreRuns old) (is : IsRun page c) (end : (p : ℕ) → page ≤ p → block_by old p ≡ None) (puts : Puts old new page (Some c)) where
  free : (p : ℕ) → in_run page c.count p ≡ true → block_by old p ≡ None
  free p h = end p (grind (arith, nat_tests))

  pub behind_runs : AreRuns new
  behind_runs = put_free old new page c before is free puts

  pub behind : (p : ℕ) → block_by new p ≡ (if in_run page c.count p then Some (c.start + (p - page)) else block_by old p)
  behind = after_put old new page c before behind_runs is.some free puts
