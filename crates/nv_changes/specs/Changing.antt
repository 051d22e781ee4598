-- What a change makes of a region, or why it is refused.
use Rattle.std.specs.Prelude.{◌≡◌, ◌≢◌, ◌⊎◌, ℕ, true, false, List, [], take}
use Rattle.nv_region.specs.Region.{Region}
use Rattle.nv_region.specs.RegionState.{RegionState}
use Rattle.nv_journal.specs.Undo.{undone}
use Rattle.nv_outcome.specs.Outcome.{Outcome, IsOutcome}
use Rattle.nv_tree.specs.Tree.{Tree}
use Rattle.nv_tree.specs.Refusals.{refusal_word}
use Rattle.nv_tree.specs.declared.refusal.Refusal.{Refusal as CallRefusal}
use Rattle.nv_tree.specs.declared.refusal.Refusal.TheVariants as refusals
use Rattle.nv_text.specs.Answers.{refused_line}
use Rattle.nv_text.specs.Refusals.{refusal_name}
use Rattle.nv_session.specs.Calls.{LeavesTreeBy, mounted_as}
use Rattle.nv_session.specs.Sessions.{IsSettled}
use Rattle.nv_mounted.specs.Mounted.{outcome_layout}
use Rattle.nv_calls.specs.Mount.{IsKept, Mount, has_faults}
use Rattle.nv_paths.specs.Seen.{tree_of}
use Rattle.nv_image_check.specs.Recovering.{IsSuperRefused}
use Rattle.nv_history.specs.Making.{AreMade, MayHaveGrown}
use Rattle.nv_history.specs.Halting.{HaltsAt}
use Rattle.nv_history.specs.declared.calls.Call.{Call}
use Rattle.nv_history.specs.declared.runs.Halted.{Halted}
use Rattle.nv_changes.specs.Calls.{AreCallsOf}
use Rattle.nv_changes.specs.declared.change.Change.{Change}
use Rattle.nv_changes.specs.declared.changing.Changed.{Changed}
use Rattle.nv_changes.specs.declared.changing.Changed.TheVariants as changed

-- the tree that a region shows, by its outcome, once its journals are rolled back
abbrev pub tree_shown : Region → Outcome → Tree
tree_shown R o = tree_of (undone o.sup R) o.rows

-- All calls of the change were made. The region that is left is as long as the one that came, its own undone region, and has no
-- fault; it shows the tree that the calls make, in such tables. Nothing is pending in it.
pub record IsMade (R : Region) (o : Outcome) (change : Change) (cpu time : ℕ) (left : RegionState) : Type 0 where
  pub calls : List Call
  pub are : AreCallsOf (tree_shown R o) change cpu time calls
  pub tree : Tree
  pub made : AreMade o.sup calls (tree_shown R o) tree
  pub leaves : LeavesTreeBy (MayHaveGrown o.sup calls (outcome_layout o)) R left.region (mounted_as o false) tree
  pub settled : IsSettled left

-- A call of the change is refused, by what the calls in front of it have made of what is mounted: by its first test that holds,
-- since neither a stop nor want of memory comes.
pub record IsHalted (R : Region) (o : Outcome) (change : Change) (cpu time : ℕ) (refusal : CallRefusal) : Type 0 where
  pub calls : List Call
  pub are : AreCallsOf (tree_shown R o) change cpu time calls
  pub halted : Halted
  pub left : Mount RegionState
  pub kept : IsKept left.memory.region left.sup left.layout left.rows left.free left.faults left.read_only left.stopped
  pub runs : left.stopped ≡ false
  pub sup : left.sup ≡ o.sup
  pub tables : MayHaveGrown o.sup (take halted.made calls) (outcome_layout o) left.layout
  pub writes : left.read_only ≡ false
  pub halts : HaltsAt o.sup (tree_shown R o) calls halted left.memory.region left
  pub is : halted.refusal ≡ refusal
  pub no_stop : refusal ≢ refusals.Stopped
  pub no_memory : refusal ≢ refusals.Memory

-- what came of a change, by the region's outcome: faults refuse it before anything else
abbrev pub IsChangedAs : Region → Outcome → Change → ℕ → ℕ → Changed → Type 0
IsChangedAs R o change cpu time (changed.Region left) = (has_faults o.faults ≡ false) × IsMade R o change cpu time left
IsChangedAs R o change cpu time (changed.Unrecovered refusal) = ⊥
IsChangedAs R o change cpu time (changed.Refused refusal) = ((has_faults o.faults ≡ true) × (refusal ≡ refusals.ReadOnly)) ⊎ ((has_faults o.faults ≡ false) × IsHalted R o change cpu time refusal)

-- What a change answers: the superblock's first fault, or what came of it.
abbrev pub IsChanged : Region → Change → ℕ → ℕ → Changed → Type 0
IsChanged R change cpu time (changed.Unrecovered refusal) = IsSuperRefused R refusal
IsChanged R change cpu time (changed.Region left) = (o : Outcome) × IsOutcome R o × IsChangedAs R o change cpu time (changed.Region left)
IsChanged R change cpu time (changed.Refused refusal) = (o : Outcome) × IsOutcome R o × IsChangedAs R o change cpu time (changed.Refused refusal)

-- ---- what is told

-- what is printed of a change: nothing, or its refusal
abbrev pub changed_text : Changed → List ℕ
changed_text (changed.Region left) = []
changed_text (changed.Unrecovered refusal) = refused_line (refusal_name refusal)
changed_text (changed.Refused refusal) = refused_line (refusal_word refusal)

-- the exit status by what came of it: 0 where a region is left, and 2 where it is refused
abbrev pub changed_status : Changed → ℕ
changed_status (changed.Region left) = 0
changed_status (changed.Unrecovered refusal) = 2
changed_status (changed.Refused refusal) = 2

-- ---- within

-- this refusal is told, and it isn't want of memory
abbrev pub IsRefusal : CallRefusal → Changed → Type 0
IsRefusal refusal (changed.Refused told) = (told ≡ refusal) × (refusal ≢ refusals.Memory)
IsRefusal refusal _ = ⊥
