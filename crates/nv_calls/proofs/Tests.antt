-- The tests of writing calls on one path, by those of `stat` and by what is needed.
use Rattle.std.proofs.Common.{◌≡◌, inl, inr, ℕ, ◌<◌, ◌≤◌, nat_lt, Bool, true, false, cond, [], ◌∷◌, ◌++◌, append_assoc, refl, ap, sym, ◌∙◌, subst, arith, Option, Some, None, Result, Ok, Err, IfErr, IsTrue, is_none, not}
use Rattle.std.proofs.lemmas.Bool.Decides.{nat_tests}
use Rattle.nv_alloc.specs.Taking.{all_blocks}
use Rattle.nv_tree.specs.declared.refusal.Refusal.{Refusal}
use Rattle.nv_tree.specs.declared.refusal.Refusal.TheVariants.{BadCpu, NoSpace, NotFound, ReadOnly, Stopped}
use Rattle.nv_tree.specs.Tree.{Tree, found, walk}
use Rattle.nv_tree.specs.Refusals.{Path, Tests, World, first_refusal, has_no_space, is_bad, is_missing, refused_walk, stat_tests, walk_tests, writing, IsRefusedBy, MayWantMemory}
use Rattle.nv_calls.specs.Mount.{Mount}
use Rattle.nv_steps.specs.Steps.{RefusesStep}
use Rattle.nv_calls.specs.World.{world_of}
use Rattle.nv_paths.proofs.Refusing.{passed_before, refused_before, walk_goes_on}

-- ---- tests behind others

-- the tests of `stat` come first
pub stat_first : (t : Tree) (p : Path) (more : Tests) → is_bad p ∷ walk_tests t p ++ is_missing t p ∷ more ≡ stat_tests t p ++ more
stat_first t p more = ap (λ (tests : Tests). is_bad p ∷ tests) (sym (append_assoc (walk_tests t p) (is_missing t p ∷ []) more))

module _ (w : World) (t : Tree) (cpu : ℕ) (passed : (tests : Tests) → first_refusal (writing w cpu tests) ≡ first_refusal tests) (p : Path) where
  -- What refuses `stat` refuses a call that writes.
  pub stat_refuses : (more : Tests) (e : Refusal) → first_refusal (stat_tests t p) ≡ Some e → first_refusal (writing w cpu (is_bad p ∷ walk_tests t p ++ is_missing t p ∷ more)) ≡ Some e
  stat_refuses more e h = passed (is_bad p ∷ walk_tests t p ++ is_missing t p ∷ more) ∙ ap first_refusal (stat_first t p more) ∙ refused_before (stat_tests t p) more e h

  pub stat_allows : (more : Tests) → first_refusal (stat_tests t p) ≡ None → first_refusal (writing w cpu (is_bad p ∷ walk_tests t p ++ is_missing t p ∷ more)) ≡ first_refusal more
  stat_allows more h = passed (is_bad p ∷ walk_tests t p ++ is_missing t p ∷ more) ∙ ap first_refusal (stat_first t p more) ∙ passed_before (stat_tests t p) more h

pub enough_space : (w : World) (count : ℕ) → count ≤ w.free → first_refusal (has_no_space w count ∷ []) ≡ None
enough_space w count enough = ap (λ (b : Bool). cond b (Some NoSpace) None) off where
  off : nat_lt w.free count ≡ false
  off = grind (arith, nat_tests)

pub too_few : (w : World) (count : ℕ) → w.free < count → first_refusal (has_no_space w count ∷ []) ≡ Some NoSpace
too_few w count few = ap (λ (b : Bool). cond b (Some NoSpace) None) on where
  on : nat_lt w.free count ≡ true
  on = grind (arith, nat_tests)

-- Where only the space is left to test, memory may be wanted.
pub space_last : (w : World) (count : ℕ) → MayWantMemory (first_refusal (has_no_space w count ∷ []))
space_last w count = by (nat_lt w.free count) where
  by : (b : Bool) → MayWantMemory (cond b (Some NoSpace) None)
  by true = inr refl
  by false = inl refl

-- ---- no test answers `Stopped`

pub stat_goes_on : (t : Tree) (p : Path) → first_refusal (stat_tests t p) ≡ Some Stopped → ⊥
stat_goes_on t None e = absurd (cc)
stat_goes_on t (Some names) e = by (walk t 1 names) (walk_goes_on t 1 names) (is_none (found t names)) e where
  by : (w : Result ℕ Refusal) → (w ≡ Err Stopped → ⊥) → (b : Bool) → first_refusal (refused_walk w ++ (b, NotFound) ∷ []) ≡ Some Stopped → ⊥
  by (Err r) off b e = off (cc)
  by (Ok d) off true e = absurd (cc)
  by (Ok d) off false e = absurd (cc)

pub writing_goes_on : (w : World) (cpu : ℕ) → first_refusal (writing w cpu []) ≡ Some Stopped → ⊥
writing_goes_on w cpu e = by (nat_lt cpu w.cpus) w.read_only e where
  by : (a b : Bool) → first_refusal ((not a, BadCpu) ∷ (b, ReadOnly) ∷ []) ≡ Some Stopped → ⊥
  by true true e = absurd (cc)
  by true false e = absurd (cc)
  by false b e = absurd (cc)

-- ---- replies

-- what holds of each error
pub if_err : {A E : Type 0} (r : Result A E) (Q : E → Type 0) → ((e : E) → Q e) → IfErr r Q
if_err (Ok a) Q each = tt
if_err (Err e) Q each = each e

-- a call that was refused before anything was stored isn't stopped
pub early_reply : {A : Type 0} {C : Type 0} (b : Bool) (r : Result A Refusal) (e x : Refusal) → r ≡ Err x → x ≡ e → (e ≡ Stopped → ⊥) → b ≡ false → (IsTrue b → C) × (r ≡ Err Stopped → IsTrue b)
early_reply b r e x is same off runs = (
  (λ on. absurd (let clash : true ≡ false = sym on ∙ runs in cc)),
  (λ stops. absurd (off (let both : Err x ≡ Err Stopped = sym is ∙ stops in let one : x ≡ Stopped = cc in sym same ∙ one))),
)

-- ---- space

-- A call whose last test is for space isn't refused where there are enough blocks, and where its step was, so is the call.
module _ {P : Type 0} {n m : Mount P} (same : n ≡ m) (tests : Mount P → Option Refusal) (count : ℕ) (at_last : tests n ≡ first_refusal (has_no_space (world_of n) count ∷ [])) where
  pub space_allows : count ≤ all_blocks n.free.pools → tests m ≡ None
  space_allows enough = subst (λ (k : Mount P). tests k ≡ None) same (at_last ∙ enough_space (world_of n) count enough)

  pub space_refuses : (e : Refusal) → RefusesStep e count n.free → IsRefusedBy (tests m) e
  space_refuses e (inl memory) = inl (memory, subst (λ (k : Mount P). MayWantMemory (tests k)) same (subst MayWantMemory (sym at_last) (space_last (world_of n) count)))
  space_refuses e (inr (inl stopped)) = inr (inl stopped)
  space_refuses e (inr (inr w)) = inr (inr (subst (λ (k : Mount P). tests k ≡ Some e) same (at_last ∙ too_few (world_of n) count w.1 ∙ ap (λ (r : Refusal). Some r) (sym w.0))))
