-- What looking at the log of an inode tells.
use Rattle.std.specs.Prelude.{◌≡◌, ◌⊎◌, ℕ, List, length}
use Rattle.nv_region.specs.Region.{Region}
use Rattle.nv_super.specs.declared.superblock.Super.{Super}
use Rattle.nv_inode.specs.Chains.{layout_of}
use Rattle.nv_scan.specs.declared.piece.Row.{Row}
use Rattle.nv_journal.specs.Undo.{undone}
use Rattle.nv_outcome.specs.Outcome.{Outcome, IsOutcome}
use Rattle.nv_paths.specs.Seen.{tree_of}
use Rattle.nv_tree.specs.Tree.{Tree}
use Rattle.nv_tree.specs.Refusals.{refusal_word}
use Rattle.nv_tree.specs.declared.refusal.Refusal.{Refusal}
use Rattle.nv_inspect.specs.Log.{IsLogText}
use Rattle.nv_image_check.specs.Checking.{IsRefusal, IsSuperRefusal}
use Rattle.nv_image_check.specs.declared.answered.Answered.{Answered}
use Rattle.nv_logs.specs.declared.inode.Inode.{Inode}
use Rattle.nv_logs.specs.Asking.{IsAsked, IsRefused}

-- the log of an inode of a tree in a region, by its row among these, with status 0; or its refusal
abbrev pub TellsLog : Tree → Region → Super → List Row → Inode → List ℕ → ℕ → Type 0
TellsLog t R s rows inode text status = ((row : Row) × IsAsked t rows inode row × IsLogText R (layout_of s R) row text × (status ≡ 0))
    ⊎ ((refusal : Refusal) × IsRefused t inode refusal × IsRefusal (refusal_word refusal) text status)

-- The superblock's first fault is named; or the log is told that the region has, once its journals are rolled back, by the rows of
-- its outcome.
abbrev pub IsLogLook : Inode → Region → List ℕ → Answered → Type 0
IsLogLook inode R text answered = (IsSuperRefusal R text answered.status × (answered.faults ≡ 0))
    ⊎ ((o : Outcome) × IsOutcome R o × TellsLog (tree_of (undone o.sup R) o.rows) (undone o.sup R) o.sup o.rows inode text answered.status × (answered.faults ≡ length o.faults))
