-- What looking at how many blocks an inode takes, with all below it, tells.
use Rattle.std.specs.Prelude.{◌≡◌, ◌⊎◌, ℕ, List}
use Rattle.nv_region.specs.Region.{Region}
use Rattle.nv_scan.specs.declared.piece.Row.{Row}
use Rattle.nv_usage.specs.Usage.{IsUsage, usage_line}
use Rattle.nv_tree.specs.Tree.{Tree}
use Rattle.nv_tree.specs.Refusals.{refusal_word}
use Rattle.nv_tree.specs.declared.refusal.Refusal.{Refusal}
use Rattle.nv_image_check.specs.Checking.{IsRefusal}
use Rattle.nv_image_check.specs.declared.answered.Answered.{Answered}
use Rattle.nv_logs.specs.declared.inode.Inode.{Inode}
use Rattle.nv_logs.specs.Asking.{IsAsked, IsRefused}
use Rattle.nv_logs.specs.Rows.{IsRowLook}

-- the line of how many blocks the inode of a row takes, with all below it
abbrev pub TellsCount : List Row → ℕ → List ℕ → ℕ → Type 0
TellsCount rows i text status = (n : ℕ) × IsUsage rows i n × (text ≡ usage_line n) × (status ≡ 0)

-- that of the inode that is asked for, or why there is none
abbrev pub TellsUsage : Tree → List Row → Inode → List ℕ → ℕ → Type 0
TellsUsage t rows inode text status = ((row : Row) × IsAsked t rows inode row × TellsCount rows row.inode text status)
    ⊎ ((refusal : Refusal) × IsRefused t inode refusal × IsRefusal (refusal_word refusal) text status)

-- by the rows of a region's outcome
abbrev pub IsUsageLook : Inode → Region → List ℕ → Answered → Type 0
IsUsageLook inode = IsRowLook (λ t rows text status. TellsUsage t rows inode text status)
