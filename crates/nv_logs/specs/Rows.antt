-- What a look tells of the rows of a region's outcome.
use Rattle.std.specs.Prelude.{◌≡◌, ◌⊎◌, ℕ, List, length}
use Rattle.nv_region.specs.Region.{Region}
use Rattle.nv_scan.specs.declared.piece.Row.{Row}
use Rattle.nv_journal.specs.Undo.{undone}
use Rattle.nv_outcome.specs.Outcome.{Outcome, IsOutcome}
use Rattle.nv_paths.specs.Seen.{tree_of}
use Rattle.nv_tree.specs.Tree.{Tree}
use Rattle.nv_image_check.specs.Checking.{IsSuperRefusal}
use Rattle.nv_image_check.specs.declared.answered.Answered.{Answered}

-- what is told of a tree by its rows, as a text and the exit status
abbrev pub TellsRows : Type 1
TellsRows = Tree → List Row → List ℕ → ℕ → Type 0

-- The superblock's first fault is named; or it is told of the rows of the region's outcome, and of the tree that they show once the
-- journals are rolled back.
abbrev pub IsRowLook : TellsRows → Region → List ℕ → Answered → Type 0
IsRowLook Tells R text answered = (IsSuperRefusal R text answered.status × (answered.faults ≡ 0))
    ⊎ ((o : Outcome) × IsOutcome R o × Tells (tree_of (undone o.sup R) o.rows) o.rows text answered.status × (answered.faults ≡ length o.faults))
