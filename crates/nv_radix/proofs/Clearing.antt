-- What is left of the runs where some pages are unmapped.
use Rattle.std.proofs.Common.{◌≡◌, ℕ, ◌+◌, ◌-◌, ◌<◌, ◌≤◌, Bool, true, false, cond, ◌&&◌, if◌then◌else◌, nat_le, nat_lt, Option, Some, None, refl, ap, sym, ◌∙◌, subst, arith, inl, inr}
use Rattle.std.proofs.lemmas.Bool.{cases_lt, cases_order}
use Rattle.std.proofs.lemmas.Bool.Decides.{nat_tests}
use Rattle.nv_radix.specs.declared.runs.Blocks.{Blocks}
use Rattle.nv_radix.specs.Pages.{in_run}
use Rattle.nv_radix.specs.Runs.{Runs, block_by, run_at, front_of, IsRun, AreRuns, Puts, IsLastBefore}
use Rattle.nv_radix.proofs.RunLemmas.{mapped, found, after_front, front_runs, after_put, put_free}

same_test : (s t : Bool) → (s ≡ true → t ≡ true) → (t ≡ true → s ≡ true) → s ≡ t
same_test true t h k = sym (h refl)
same_test false true h k = k refl
same_test false false h k = refl

-- a page that is unmapped or as before is unmapped where it was
pub stays_none : (t : Bool) (o n : Option ℕ) → n ≡ cond t None o → o ≡ None → n ≡ None
stays_none true o n h e = h
stays_none false o n h e = h ∙ e

-- the page is one of these
abbrev pub is_between : ℕ → ℕ → ℕ → Bool
is_between first end p = nat_le first p && nat_lt p end

-- the pages of a run from `first` on, where it ends no later than `end`
pub cut_front : (old new : Runs) (k first end : ℕ) (b : Blocks) → AreRuns old → AreRuns new → run_at old k ≡ Some b → first < k + b.count → k + b.count ≤ end → Puts old new k (front_of b (first - k))
    → (p : ℕ) → block_by new p ≡ (if in_run k b.count p && is_between first end p then None else block_by old p)
cut_front old new k first end b before after at begins ends puts p =
    after_front old new k (first - k) b before after at (let some = (before.each k b at).some in omega (arith, begins, some)) puts p
    ∙ ap (λ (t : Bool). cond t None (block_by old p)) (same_test (in_run (k + (first - k)) (b.count - (first - k)) p) (in_run k b.count p && is_between first end p) (λ e. grind (arith, nat_tests)) (λ e. grind (arith, nat_tests)))

-- and where it ends behind `end`
module _ (old mid new : Runs) (k first end : ℕ) (b : Blocks) (before : AreRuns old) (between : AreRuns mid) (at : run_at old k ≡ Some b) (begins : k < end) (some : first < end) (ends : end < k + b.count)
    (front : Puts old mid k (front_of b (first - k))) where
  few : first - k ≤ b.count
  few = omega (arith, begins, some, ends)

  tail_free : (p : ℕ) → in_run end (k + b.count - end) p ≡ true → block_by mid p ≡ None
  tail_free p h =
      let rest : in_run (k + (first - k)) (b.count - (first - k)) p ≡ true = grind (arith, nat_tests) in
      after_front old mid k (first - k) b before between at few front p ∙ ap (λ (t : Bool). cond t None (block_by old p)) rest

  abbrev tail : Blocks
  tail = record { start = b.start + (end - k); count = k + b.count - end }

  tail_is : IsRun end tail
  tail_is = let is = before.each k b at in record { some = omega (arith, ends); pages = omega (arith, is.pages, ends); blocks = omega (arith, is.blocks, begins, ends) }

  pub cut_middle_runs : Puts mid new end (Some tail) → AreRuns new
  cut_middle_runs back = put_free mid new end tail between tail_is tail_free back

  pub cut_middle : AreRuns new → Puts mid new end (Some tail) → (p : ℕ) → block_by new p ≡ (if in_run k b.count p && is_between first end p then None else block_by old p)
  cut_middle after back p = elim (in_run end (k + b.count - end) p) as (λ (t : Bool). in_run end (k + b.count - end) p ≡ t → block_by new p ≡ cond (in_run k b.count p && is_between first end p) None (block_by old p)) [
    | true ↦ λ e.
        let no : (in_run k b.count p && is_between first end p) ≡ false = grind (arith, nat_tests) in
        let yes : in_run k b.count p ≡ true = grind (arith, nat_tests) in
        let over : end ≤ p = grind (arith, nat_tests) in
        after_put mid new end tail between after tail_is.some tail_free back p ∙ ap (λ (t : Bool). cond t (Some (b.start + (end - k) + (p - end))) (block_by mid p)) e
        ∙ ap Some (omega (arith, over, begins)) ∙ sym (ap (λ (t : Bool). cond t None (block_by old p)) no ∙ mapped old p k b before at yes)
    | false ↦ λ e.
        after_put mid new end tail between after tail_is.some tail_free back p ∙ ap (λ (t : Bool). cond t (Some (b.start + (end - k) + (p - end))) (block_by mid p)) e
        ∙ after_front old mid k (first - k) b before between at few front p
        ∙ ap (λ (t : Bool). cond t None (block_by old p)) (same_test (in_run (k + (first - k)) (b.count - (first - k)) p) (in_run k b.count p && is_between first end p) (λ f. grind (arith, nat_tests)) (λ f. grind (arith, nat_tests)))
  ] refl

-- pages behind the last run that begins before them map to nothing
pub behind_last : (runs : Runs) (page p : ℕ) (x : ℕ × Blocks) → AreRuns runs → IsLastBefore runs page x → p < page → x.0 + x.1.count ≤ p → block_by runs p ≡ None
behind_last runs page p x are last below over = elim (block_by runs p) as (λ (o : Option ℕ). block_by runs p ≡ o → o ≡ None) [
  | None ↦ λ h. refl
  | Some c ↦ λ h. absurd (
      let r = found runs p c are h in
      let from : r.first ≤ p = (let w = r.within in grind (arith, nat_tests)) in
      let to : p < r.first + r.blocks.count = (let w = r.within in grind (arith, nat_tests)) in
      elim (cases_order r.first x.0) [
        | inl e ↦ (let same : run_at runs x.0 ≡ Some r.blocks = subst (λ (q : ℕ). run_at runs q ≡ Some r.blocks) e r.at in
            let blocks : Some r.blocks ≡ Some x.1 = sym same ∙ last.is in
            let counts : r.blocks.count ≡ x.1.count = cc in
            omega (arith, e, counts, to, over))
        | inr w ↦ elim w [
          | inl less ↦ (let end = are.apart r.first x.0 r.blocks x.1 r.at last.is less in omega (arith, end, to, over))
          | inr more ↦ (let none = last.last r.first more (omega (arith, from, below)) in let h = r.at in absurd (cc))
        ]
      ])
] refl

-- nor do they where no run begins before them
pub before_all : (runs : Runs) (page p : ℕ) → AreRuns runs → ((q : ℕ) → q < page → run_at runs q ≡ None) → p < page → block_by runs p ≡ None
before_all runs page p are none below = elim (block_by runs p) as (λ (o : Option ℕ). block_by runs p ≡ o → o ≡ None) [
  | None ↦ λ h. refl
  | Some c ↦ λ h. absurd (
      let r = found runs p c are h in
      let from : r.first ≤ p = (let w = r.within in grind (arith, nat_tests)) in
      let no = none r.first (omega (arith, from, below)) in
      let yes = r.at in
      cc)
] refl

-- What is so while pages are unmapped from the last one down: those outside are as before, and those from `rest` on map to nothing.
pub record IsClearedTo (old now : Runs) (first end rest : ℕ) : Type 0 where
  pub runs : AreRuns now
  pub upto : rest ≤ end
  pub fewer : (p : ℕ) → block_by old p ≡ None → block_by now p ≡ None
  pub outside : (p : ℕ) → is_between first end p ≡ false → block_by now p ≡ block_by old p
  pub inside : (p : ℕ) → first ≤ p → rest ≤ p → p < end → block_by now p ≡ None

and_false : (t : Bool) → (t && false) ≡ false
and_false true = refl
and_false false = refl

pub cleared_more : (old now new : Runs) (first end rest : ℕ) (x : ℕ × Blocks) → IsClearedTo old now first end rest → IsLastBefore now rest x → AreRuns new
    → ((p : ℕ) → block_by new p ≡ (if in_run x.0 x.1.count p && is_between first end p then None else block_by now p)) → IsClearedTo old new first end x.0
cleared_more old now new first end rest x so_far last after step = record {
  runs = after;
  upto = let less = last.before in let upto = so_far.upto in omega (arith, less, upto);
  fewer = λ p h. stays_none (in_run x.0 x.1.count p && is_between first end p) _ _ (step p) (so_far.fewer p h);
  outside = λ p h. step p ∙ ap (λ (t : Bool). cond (in_run x.0 x.1.count p && t) None (block_by now p)) h ∙ ap (λ (t : Bool). cond t None (block_by now p)) (and_false (in_run x.0 x.1.count p)) ∙ so_far.outside p h;
  inside = λ p from page to. inside p from page to;
}
  where
    inside : (p : ℕ) → first ≤ p → x.0 ≤ p → p < end → block_by new p ≡ None
    inside p from page to =
        let now_none : in_run x.0 x.1.count p ≡ false → block_by now p ≡ None = λ e. elim (cases_lt p rest) [
          | inl under ↦ behind_last now rest p x so_far.runs last under (grind (arith, nat_tests))
          | inr over ↦ so_far.inside p from over to
        ] in
        elim (in_run x.0 x.1.count p) as (λ (t : Bool). in_run x.0 x.1.count p ≡ t → block_by new p ≡ None) [
          | true ↦ λ e. step p ∙ ap (λ (t : Bool). cond t None (block_by now p)) (let inner : (in_run x.0 x.1.count p && is_between first end p) ≡ true = grind (arith, nat_tests) in inner)
          | false ↦ λ e. stays_none (in_run x.0 x.1.count p && is_between first end p) _ _ (step p) (now_none e)
        ] refl

-- all of them are unmapped where those below `rest` are
pub cleared : (old now : Runs) (first end rest : ℕ) → IsClearedTo old now first end rest → ((p : ℕ) → first ≤ p → p < rest → block_by now p ≡ None)
    → (p : ℕ) → block_by now p ≡ (if nat_le first p && nat_lt p end then None else block_by old p)
cleared old now first end rest so_far below p = elim (is_between first end p) as (λ (t : Bool). is_between first end p ≡ t → block_by now p ≡ cond t None (block_by old p)) [
  | true ↦ λ e.
      let from : first ≤ p = grind (arith, nat_tests) in
      let to : p < end = grind (arith, nat_tests) in
      elim (cases_lt p rest) [ inl under ↦ below p from under | inr over ↦ so_far.inside p from over to ]
  | false ↦ λ e. so_far.outside p e
] refl

-- cutting a run that ends no later than `end`
pub cut_run : (old new : Runs) (k first end kept : ℕ) (b : Blocks) → AreRuns old → run_at old k ≡ Some b → first < k + b.count → k + b.count ≤ end → kept ≡ first - k → Puts old new k (front_of b kept)
    → (p : ℕ) → block_by new p ≡ (if in_run k b.count p && (nat_le first p && nat_lt p end) then None else block_by old p)
cut_run old new k first end kept b before at begins ends is puts =
    let front : Puts old new k (front_of b (first - k)) = subst (λ (n : ℕ). Puts old new k (front_of b n)) is puts in
    let some = (before.each k b at).some in
    cut_front old new k first end b before (front_runs old new k (first - k) b before at (omega (arith, begins, some)) front) at begins ends front

-- what is left of it alone
pub cut_run_fewer : (old new : Runs) (k first kept : ℕ) (b : Blocks) → AreRuns old → run_at old k ≡ Some b → first < k + b.count → kept ≡ first - k → Puts old new k (front_of b kept) → (p : ℕ) → block_by old p ≡ None → block_by new p ≡ None
cut_run_fewer old new k first kept b before at begins is puts p = stays_none _ _ _ (cut_run old new k first (k + b.count) kept b before at begins (omega arith) is puts p)

-- cutting one that ends behind it
pub cut_run_twice : (old mid new : Runs) (k first end kept : ℕ) (b : Blocks) → AreRuns old → run_at old k ≡ Some b → k < end → first < end → end < k + b.count → kept ≡ first - k → Puts old mid k (front_of b kept)
    → Puts mid new end (Some (record { start = b.start + (end - k); count = k + b.count - end }))
    → (p : ℕ) → block_by new p ≡ (if in_run k b.count p && (nat_le first p && nat_lt p end) then None else block_by old p)
cut_run_twice old mid new k first end kept b before at begins some ends is puts back =
    let front : Puts old mid k (front_of b (first - k)) = subst (λ (n : ℕ). Puts old mid k (front_of b n)) is puts in
    let between : AreRuns mid = front_runs old mid k (first - k) b before at (omega (arith, begins, some, ends)) front in
    cut_middle old mid new k first end b before between at begins some ends front (cut_middle_runs old mid new k first end b before between at begins some ends front back) back

-- A run is put where its pages were unmapped.
module _ (old mid new : Runs) (k : ℕ) (b : Blocks) (between : AreRuns mid) (is : IsRun k b) (unmapped : (p : ℕ) → block_by mid p ≡ (if nat_le k p && nat_lt p (k + b.count) then None else block_by old p)) (puts : Puts mid new k (Some b)) where
  free : (p : ℕ) → in_run k b.count p ≡ true → block_by mid p ≡ None
  free p h = unmapped p ∙ ap (λ (t : Bool). cond t None (block_by old p)) h

  pub run_put_runs : AreRuns new
  run_put_runs = put_free mid new k b between is free puts

  pub run_put : (p : ℕ) → block_by new p ≡ (if in_run k b.count p then Some (b.start + (p - k)) else block_by old p)
  run_put p = after_put mid new k b between run_put_runs is.some free puts p ∙ elim (in_run k b.count p) as (λ (t : Bool). in_run k b.count p ≡ t → cond t (Some (b.start + (p - k))) (block_by mid p) ≡ cond t (Some (b.start + (p - k))) (block_by old p)) [
    | true ↦ λ e. refl
    | false ↦ λ e. unmapped p ∙ ap (λ (t : Bool). cond t None (block_by old p)) e
  ] refl
