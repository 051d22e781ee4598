-- The way to the place of a step, and where it is halted.
use Rattle.std.proofs.Common.{◌≡◌, ◌≢◌, ◌⊎◌, inl, inr, ℕ, ◌+◌, ◌<◌, false, List, length, take, sym, subst}
use Rattle.nv_region.specs.RegionState.{RegionState}
use Rattle.nv_super.specs.declared.superblock.Super.{Super}
use Rattle.nv_tree.specs.Tree.{Tree}
use Rattle.nv_tree.specs.declared.refusal.Refusal.{Refusal}
use Rattle.nv_tree.specs.declared.refusal.Refusal.TheVariants.{Memory}
use Rattle.nv_calls.specs.Mount.{Mount}
use Rattle.nv_script.specs.Cleaning.{CanClean}
use Rattle.nv_changes.specs.Calls.{IsThere}
use Rattle.nv_untar.specs.declared.item.Item.{Item}
use Rattle.nv_untar.specs.Items.{item_of}
use Rattle.nv_unpack.specs.declared.maker.Maker.{Maker}
use Rattle.nv_unpack.specs.declared.step.Step.{Step}
use Rattle.nv_unpack.specs.declared.step.Step.TheVariants.{Make, SetAttributes}
use Rattle.nv_unpack.specs.declared.halt.Halt.{Halt}
use Rattle.nv_unpack.specs.Steps.{item_in}
use Rattle.nv_unpack.specs.Ways.{MakesAbove, MakesWay, ends_above}
use Rattle.nv_unpack.specs.Ways as ways
use Rattle.nv_unpack.specs.Places.{place}
use Rattle.nv_unpack.specs.Making.{GoesOn, HaltsStep, IsHaltOf, RefusesAbove, RefusesStep, RefusesStepAt, RefusesWay, RefusesWayOf}
use Rattle.nv_unpack.proofs.Going.{follows, halted_step, stays, tree}

-- ---- the way

-- So much of the way is made.
pub record WayGoing (maker : Maker) (time : ℕ) (text : List ℕ) (old now : Mount RegionState) (k : ℕ) : Type 0 where
  pub made : MakesWay old.sup maker time text k (tree old) (tree now)
  pub goes : GoesOn old now

pub way_begins : (maker : Maker) (time : ℕ) (text : List ℕ) (old : Mount RegionState) → CanClean old → WayGoing maker time text old old 0
way_begins maker time text old can = record { made = ways.none (tree old); goes = stays old can }

one_above : (s : Super) (maker : Maker) (time : ℕ) (text : List ℕ) (k : ℕ) (t v u : Tree) → MakesWay s maker time text k t v → MakesAbove s maker time text k v u → MakesWay s maker time text (k + 1) t u
one_above s maker time text k t v u way (inl stands) =
    subst (MakesWay s maker time text (k + 1) t) stands.1 (ways.passes k t v (subst (λ (x : Tree). (ends_above text k ≡ false) ⊎ IsThere x (take k text)) (sym stands.1) stands.0) way)
one_above s maker time text k t v u way (inr made) = ways.makes k t v u made.0 made.1 made.2 way

module _ (maker : Maker) (time : ℕ) (text : List ℕ) (old now next : Mount RegionState) (k : ℕ) (going : WayGoing maker time text old now k) (on : GoesOn now next) where
  pub way_goes_on : MakesAbove now.sup maker time text k (tree now) (tree next) → WayGoing maker time text old next (k + 1)
  way_goes_on made = record {
    made = one_above old.sup maker time text k (tree old) (tree now) (tree next) going.made (subst (λ (s : Super). MakesAbove s maker time text k (tree now) (tree next)) going.goes.sup made);
    goes = follows old now next going.goes on;
  }

  pub way_refused : (refusal : Refusal) → k < length text → RefusesAbove now.sup maker time text k (tree now) next refusal → RefusesWay old.sup maker time text (tree old) next refusal
  way_refused refusal inside refused = (k, inside, tree now, going.made, subst (λ (s : Super). RefusesAbove s maker time text k (tree now) next refusal) going.goes.sup refused)

-- ---- the step

module _ (base : List ℕ) (maker : Maker) (step : Step) (text old : List ℕ) (text_is : text ≡ place base (item_of (item_in step)).path) (old_is : old ≡ place base (item_of (item_in step)).link) (first now : Mount RegionState) where
  its_refusal : (left : Mount RegionState) (refusal : Refusal) → RefusesStepAt first.sup maker text old step (tree first) left refusal → RefusesStep first.sup base maker step (tree first) left refusal
  its_refusal left refusal refused =
      subst (λ (x : List ℕ). RefusesStepAt first.sup maker (place base (item_of (item_in step)).path) x step (tree first) left refusal) old_is
      (subst (λ (x : List ℕ). RefusesStepAt first.sup maker x old step (tree first) left refusal) text_is refused)

  -- a call for the way is refused
  pub way_halted : (refusal : Refusal) → RefusesWayOf first.sup maker text step (tree first) now refusal → (item : Item) → item ≡ item_in step → (halt : Halt) → IsHaltOf item refusal halt → HaltsStep first.sup base maker step (tree first) now halt
  way_halted refusal refused item of halt is = halted_step first.sup base maker step (tree first) now item refusal of (λ no_memory. its_refusal now refusal (by step refused no_memory)) halt is
    where
      by : (step : Step) → RefusesWayOf first.sup maker text step (tree first) now refusal → refusal ≢ Memory → RefusesStepAt first.sup maker text old step (tree first) now refusal
      by (Make item) (k, inside, v, way, asked) no_memory = record { tree = v; calls = asked.0; next = inl (k, inside, way, asked.1); refuses = asked.2; no_memory = no_memory }
      by (SetAttributes item) never no_memory = absurd never
