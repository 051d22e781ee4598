-- What recoveries find in a region that a power cut has left.
use Rattle.std.specs.Prelude.{◌≡◌, ◌⊎◌, ◌+◌, List, take, Result, Ok, Err, ⊤}
use Rattle.nv_region.specs.Region.{Region}
use Rattle.nv_super.specs.declared.owners.Run.{Run}
use Rattle.nv_super.specs.Super.{IsSuper}
use Rattle.nv_super.specs.Layout.{Layout}
use Rattle.nv_journal.specs.Undo.{undone}
use Rattle.nv_scan.specs.declared.piece.Row.{Row}
use Rattle.nv_outcome.specs.Outcome.{Outcome, IsOutcome}
use Rattle.nv_outcome.specs.Same.{SameOutcome, lasting_outcome}
use Rattle.nv_recover.specs.Errors.{UndoesAsBefore}
use Rattle.nv_tree.specs.declared.refusal.Refusal.TheVariants.{Stopped}
use Rattle.nv_paths.specs.Seen.{tree_of}
use Rattle.nv_mounted.specs.Mounted.{faultless_outcome}
use Rattle.nv_calls.specs.Mount.{Mount, shown}
use Rattle.nv_calls.specs.Stopped.{RecoversTo}
use Rattle.nv_history.specs.declared.calls.Call.{Call}
use Rattle.nv_history.specs.declared.runs.Halted.{Halted}
use Rattle.nv_history.specs.Making.{AreMade, MayHaveGrown, supers_behind}
use Rattle.nv_history.specs.Keeping.{AreBegun}

-- ---- recoveries

-- From the first region to the second recoveries were begun and stopped, one after the other, or none was.
pub data StoppedRecoveries (left : Region) : Region → Type 0 where
  none : StoppedRecoveries left left
  again : (mid next : Region) → StoppedRecoveries left mid → UndoesAsBefore mid next → StoppedRecoveries left next

-- Recovery finds these rows and free lists without faults. However often recoveries are stopped and begun again, the journals
-- roll back to the same region, and it finds them, with no faults but those of pending records.
pub record AlwaysRecoversTo (left : Region) (l : Layout) (rows : List Row) (free : List (List Run)) : Type 0 where
  pub first : RecoversTo left l rows free
  pub sup : (next : Region) → StoppedRecoveries left next → IsSuper next l.sup
  pub undoes : (next : Region) → StoppedRecoveries left next → undone l.sup next ≡ undone l.sup left
  pub finds : (next : Region) (o : Outcome) → StoppedRecoveries left next → IsOutcome next o → SameOutcome (faultless_outcome l rows free) (lasting_outcome o)

-- ---- a run of calls

-- The calls that may be done when a run was answered so: those that were made, or with them the one that was stopped.
abbrev pub MayBeDone : List Call → Result ⊤ Halted → List Call → Type 0
MayBeDone calls (Ok made) done = done ≡ calls
MayBeDone calls (Err halted) done = (done ≡ take halted.made calls) ⊎ ((halted.refusal ≡ Stopped) × (done ≡ take (halted.made + 1) calls))

-- These calls of a run make the tree of the rows that recovery finds, and the superblock, however often it is stopped and begun again.
-- The chains are those that were mounted, and may have grown where a call that was begun lets a table grow.
pub record RecoversMade {P : Type 0} (region : P → Region) (old : Mount P) (begun done : List Call) (left : Region) : Type 0 where
  pub layout : Layout
  pub rows : List Row
  pub free : List (List Run)
  pub recovers : AlwaysRecoversTo left layout rows free
  pub sup : layout.sup ≡ supers_behind old.sup done
  pub tables : MayHaveGrown old.sup begun old.layout layout
  pub made : AreMade old.sup done (shown region old) (tree_of (undone layout.sup left) rows)

-- whatever a stop leaves of a run: recovery finds what such calls make
abbrev pub RunLeaves : {P : Type 0} → (P → Region) → Mount P → List Call → Result ⊤ Halted → Region → Type 0
RunLeaves region old calls answer left = ∥ ((begun done : List Call) × AreBegun calls answer begun × MayBeDone calls answer done × RecoversMade region old begun done left) ∥₁
