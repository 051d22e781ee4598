-- Where a run of calls was halted, and why.
use Rattle.std.specs.Prelude.{◌≡◌, List, slice_get, take, Some}
use Rattle.nv_region.specs.Region.{Region}
use Rattle.nv_tree.specs.Tree.{Tree}
use Rattle.nv_paths.specs.Seen.{tree_of}
use Rattle.nv_calls.specs.Mount.{Mount}
use Rattle.nv_calls.specs.Same.{SameMount}
use Rattle.nv_history.specs.declared.calls.Call.{Call}
use Rattle.nv_history.specs.declared.runs.Halted.{Halted}
use Rattle.nv_history.specs.Making.{AreMade, supers_behind}
use Rattle.nv_history.specs.Asking.{RefusesCall}
use Rattle.nv_super.specs.declared.superblock.Super.{Super}

-- the call after those that were made is refused by its tests, or for want of memory where that comes last
abbrev pub RefusesNext : {P : Type 0} → Region → Mount P → List Call → Halted → Type 0
RefusesNext R m calls halted = (call : Call) × (slice_get calls halted.made ≡ Some call) × RefusesCall R m call halted.refusal

-- The calls in front of the refused one have made the tree and the superblock that were mounted when it was asked. It left the mount as
-- it was, and was refused so.
pub record HaltsAt {P : Type 0} (s : Super) (t : Tree) (calls : List Call) (halted : Halted) (R : Region) (new : Mount P) : Type 0 where
  pub asked : Mount P
  pub made : AreMade s (take halted.made calls) t (tree_of R asked.rows)
  pub sup : asked.sup ≡ supers_behind s (take halted.made calls)
  pub same : SameMount asked new
  pub why : RefusesNext R asked calls halted
