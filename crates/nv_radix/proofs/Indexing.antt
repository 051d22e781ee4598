-- The index that is made of the runs of a map.
use Rattle.std.proofs.Common.{◌≡◌, ℕ, ◌+◌, ◌-◌, ◌<◌, ◌≤◌, length, get_or, suc, Bool, true, false, cond, if◌then◌else◌, [], ◌∷◌, ◌++◌, Some, None, refl, ap, sym, ◌∙◌, subst, arith, append_assoc}
use Rattle.std.specs.List.{Contains}
use Rattle.std.specs.List.Sorted.{IsStrictlySortedBy}
use Rattle.std.specs.Map.{keys_of}
use Rattle.std.specs.Ordering.{nat_cmp}
use Rattle.std.proofs.lemmas.Bool.Decides.{nat_tests}
use Rattle.std.proofs.lemmas.Cmp.{nat_cmp_total, eq_by_cmp_equiv}
use Rattle.std.proofs.lemmas.List.Elements.{Contains-append_right}
use Rattle.std.proofs.lemmas.List.{get_or-map}
use Rattle.std.proofs.lemmas.Map.Entries.{length-keys_of}
use Rattle.std.proofs.lemmas.Map.Keys.{IsDistinct-from_sorted, below_from_sorted, sorted_tail}
use Rattle.std.proofs.lemmas.Map.Views.{lookup-from_Contains}
use Rattle.nv_radix.specs.declared.runs.Blocks.{Blocks}
use Rattle.nv_radix.specs.Pages.{Pages, block_at, in_run}
use Rattle.nv_radix.specs.Runs.{Runs, block_by, run_at, IsRun, AreRuns}
use Rattle.nv_radix.proofs.RunLemmas.{mapped}

after_run : (page count p : ℕ) → page + count ≤ p → in_run page count p ≡ false
after_run page count p l = grind (arith, nat_tests)

-- What is so while the runs are put into the index one by one: the pages of the index are right, and the others wait among
-- the rest, of which each stands behind all pages of the index.
pub record IsIndexed (all rest : Runs) (index : Pages) : Type 0 where
  pub done : Runs
  pub is : all ≡ done ++ rest
  pub right : (p b : ℕ) → block_at index p ≡ Some b → block_by all p ≡ Some b
  pub waits : (p : ℕ) → block_at index p ≡ None → block_by all p ≡ block_by rest p
  pub behind : (x : ℕ × Blocks) → Contains rest x → (p : ℕ) → x.0 ≤ p → block_at index p ≡ None

pub none_indexed : (all rest : Runs) (index : Pages) → rest ≡ all → ((p : ℕ) → block_at index p ≡ None) → IsIndexed all rest index
none_indexed all rest index same none = record {
  done = [];
  is = sym same;
  right = λ p b h. absurd (let no = none p in cc);
  waits = λ p h. ap (λ (r : Runs). block_by r p) (sym same);
  behind = λ x c p l. none p;
}

-- the next run
pub next_at : (all rest more : Runs) (index : Pages) (x : ℕ × Blocks) → AreRuns all → IsIndexed all rest index → rest ≡ x ∷ more → run_at all x.0 ≡ Some x.1
next_at all rest more index x are so_far is = lookup-from_Contains (eq_by_cmp_equiv nat_cmp_total) x.0 x.1 all (IsDistinct-from_sorted nat_cmp _ are.rising)
    (subst (λ (r : Runs). Contains r x) (sym so_far.is) (Contains-append_right so_far.done rest x (subst (λ (r : Runs). Contains r x) (sym is) (0, omega arith, refl))))

pub next_is : (all rest more : Runs) (index : Pages) (x : ℕ × Blocks) → AreRuns all → IsIndexed all rest index → rest ≡ x ∷ more → IsRun x.0 x.1
next_is all rest more index x are so_far is = are.each x.0 x.1 (next_at all rest more index x are so_far is)

-- it stands behind all pages of the index
pub next_behind : (all rest more : Runs) (index : Pages) (x : ℕ × Blocks) → IsIndexed all rest index → rest ≡ x ∷ more → (p : ℕ) → x.0 ≤ p → block_at index p ≡ None
next_behind all rest more index x so_far is p l = so_far.behind x (subst (λ (r : Runs). Contains r x) (sym is) (0, omega arith, refl)) p l

-- a run of those behind it begins where it ends, or later
apart_of : (all : Runs) (done : Runs) (x : ℕ × Blocks) (more : Runs) → AreRuns all → all ≡ done ++ x ∷ more → (y : ℕ × Blocks) → Contains more y → x.0 + x.1.count ≤ y.0
apart_of all done x more are is y c = are.apart x.0 y.0 x.1 y.1 (at x (0, omega arith, refl)) (at y (suc c.0, omega (arith, c.1), c.2)) less
  where
    at : (z : ℕ × Blocks) → Contains (x ∷ more) z → run_at all z.0 ≡ Some z.1
    at z d = lookup-from_Contains (eq_by_cmp_equiv nat_cmp_total) z.0 z.1 all (IsDistinct-from_sorted nat_cmp _ are.rising) (subst (λ (r : Runs). Contains r z) (sym is) (Contains-append_right done (x ∷ more) z d))

    sorted : (front back : Runs) → IsStrictlySortedBy nat_cmp (keys_of (front ++ back)) → IsStrictlySortedBy nat_cmp (keys_of back)
    sorted [] back h = h
    sorted (z ∷ front) back h = sorted front back (sorted_tail nat_cmp _ _ h)

    less : x.0 < y.0
    less =
        let size : suc c.0 < length (keys_of (x ∷ more)) = omega (arith, c.1, length-keys_of (x ∷ more)) in
        let rises = below_from_sorted (keys_of (x ∷ more)) 0 (suc c.0) y.0 (sorted done (x ∷ more) (subst (λ (r : Runs). IsStrictlySortedBy nat_cmp (keys_of r)) is are.rising)) (omega arith) size in
        let there : get_or (keys_of more) c.0 y.0 ≡ y.0 = get_or-map (λ (e : ℕ × Blocks). e.0) more c.0 y y.0 c.1 ∙ ap (λ (e : ℕ × Blocks). e.0) c.2 in
        subst (λ (k : ℕ). x.0 < k) there rises

-- it is put into the index
pub more_indexed : (all rest more : Runs) (index new : Pages) (x : ℕ × Blocks) → AreRuns all → IsIndexed all rest index → rest ≡ x ∷ more
    → ((p : ℕ) → block_at new p ≡ (if in_run x.0 x.1.count p then Some (x.1.start + (p - x.0)) else block_at index p)) → IsIndexed all more new
more_indexed all rest more index new x are so_far is set = record {
  done = so_far.done ++ x ∷ [];
  is = so_far.is ∙ ap (λ (r : Runs). so_far.done ++ r) is ∙ sym (let same : (so_far.done ++ x ∷ []) ++ more ≡ so_far.done ++ x ∷ more = rw append_assoc refl in same);
  right = right;
  waits = waits;
  behind = λ y c p l.
      let end = apart_of all so_far.done x more are (so_far.is ∙ ap (λ (r : Runs). so_far.done ++ r) is) y c in
      let past : x.0 + x.1.count ≤ p = omega (arith, end, l) in
      let from : x.0 ≤ p = omega (arith, past) in
      set p ∙ rw (after_run x.0 x.1.count p past) (next_behind all rest more index x so_far is p from);
}
  where
    right : (p b : ℕ) → block_at new p ≡ Some b → block_by all p ≡ Some b
    right p b h = elim (in_run x.0 x.1.count p) as (λ (t : Bool). in_run x.0 x.1.count p ≡ t → cond t (Some (x.1.start + (p - x.0))) (block_at index p) ≡ Some b → block_by all p ≡ Some b) [
      | true ↦ λ e g. mapped all p x.0 x.1 are (next_at all rest more index x are so_far is) e ∙ g
      | false ↦ λ e g. so_far.right p b g
    ] refl (sym (set p) ∙ h)

    waits : (p : ℕ) → block_at new p ≡ None → block_by all p ≡ block_by more p
    waits p h = elim (in_run x.0 x.1.count p) as (λ (t : Bool). in_run x.0 x.1.count p ≡ t → cond t (Some (x.1.start + (p - x.0))) (block_at index p) ≡ None → block_by all p ≡ block_by more p) [
      | true ↦ λ e g. absurd (cc)
      | false ↦ λ e g. so_far.waits p g ∙ ap (λ (r : Runs). block_by r p) is ∙ ap (λ (t : Bool). cond t (Some (x.1.start + (p - x.0))) (block_by more p)) e
    ] refl (sym (set p) ∙ h)
