-- What looking at the names of a directory with the numbers of their inodes tells.
use Rattle.std.specs.Prelude.{◌≡◌, ◌⊎◌, ℕ, List, codes}
use Rattle.nv_region.specs.Region.{Region}
use Rattle.nv_super.specs.declared.kind.Kind.TheVariants.{Directory, File}
use Rattle.nv_scan.specs.declared.piece.Row.{Row}
use Rattle.nv_listing.specs.Long.{IsLongText}
use Rattle.nv_tree.specs.Tree.{Tree}
use Rattle.nv_tree.specs.Refusals.{refusal_word}
use Rattle.nv_tree.specs.declared.refusal.Refusal.{Refusal}
use Rattle.nv_image_check.specs.Checking.{IsRefusal}
use Rattle.nv_image_check.specs.declared.answered.Answered.{Answered}
use Rattle.nv_logs.specs.declared.inode.Inode.{Inode}
use Rattle.nv_logs.specs.Asking.{IsAsked, IsRefused}
use Rattle.nv_logs.specs.Rows.{IsRowLook}

-- the names of a row's directory with status 0, or its refusal, where it is a file
abbrev pub TellsRow : List Row → Row → List ℕ → ℕ → Type 0
TellsRow rows row text status = ((row.kind ≡ Directory) × IsLongText rows row text × (status ≡ 0)) ⊎ ((row.kind ≡ File) × IsRefusal (codes "NotDirectory") text status)

-- the same of the inode that is asked for, or why there is none
abbrev pub TellsList : Tree → List Row → Inode → List ℕ → ℕ → Type 0
TellsList t rows inode text status = ((row : Row) × IsAsked t rows inode row × TellsRow rows row text status)
    ⊎ ((refusal : Refusal) × IsRefused t inode refusal × IsRefusal (refusal_word refusal) text status)

-- by the rows of a region's outcome
abbrev pub IsListLook : Inode → Region → List ℕ → Answered → Type 0
IsListLook inode = IsRowLook (λ t rows text status. TellsList t rows inode text status)
