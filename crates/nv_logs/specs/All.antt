-- What looking at the logs of all inodes in use tells.
use Rattle.std.specs.Prelude.{◌≡◌, ◌⊎◌, ℕ, List, [], ◌∷◌, ◌++◌, length}
use Rattle.nv_region.specs.Region.{Region}
use Rattle.nv_super.specs.Layout.{Layout}
use Rattle.nv_inode.specs.Chains.{layout_of}
use Rattle.nv_scan.specs.declared.piece.Row.{Row}
use Rattle.nv_journal.specs.Undo.{undone}
use Rattle.nv_outcome.specs.Outcome.{Outcome, IsOutcome}
use Rattle.nv_inspect.specs.Log.{IsLogText}
use Rattle.nv_image_check.specs.Checking.{IsSuperRefusal}
use Rattle.nv_image_check.specs.declared.answered.Answered.{Answered}

-- the logs of the inodes of these rows, one after another
abbrev pub AreLogTexts : Region → Layout → List Row → List ℕ → Type 0
AreLogTexts R l [] text = text ≡ []
AreLogTexts R l (row ∷ rows) text = (first : List ℕ) × (rest : List ℕ) × IsLogText R l row first × AreLogTexts R l rows rest × (text ≡ first ++ rest)

-- The superblock's first fault is named; or the log of each inode in use is told, rising by number, as the region has it once its
-- journals are rolled back.
abbrev pub IsLogsLook : Region → List ℕ → Answered → Type 0
IsLogsLook R text answered = (IsSuperRefusal R text answered.status × (answered.faults ≡ 0))
    ⊎ ((o : Outcome) × IsOutcome R o × AreLogTexts (undone o.sup R) (layout_of o.sup (undone o.sup R)) o.rows text × (answered.status ≡ 0) × (answered.faults ≡ length o.faults))
