-- What looking at the names of a directory and of all directories below it tells. Paths of over 4,096 bytes are left out.
use Rattle.std.specs.Prelude.{◌≡◌, ◌⊎◌, ℕ, Bool, List, ◌++◌, codes, decimal}
use Rattle.nv_region.specs.Region.{Region}
use Rattle.nv_super.specs.declared.kind.Kind.TheVariants.{Directory, File}
use Rattle.nv_scan.specs.declared.piece.Row.{Row}
use Rattle.nv_folders.specs.Folders.{AreAllFolders, Spot}
use Rattle.nv_listing.specs.Folders.{AreFolderTexts}
use Rattle.nv_tree.specs.Path.{IsPath, spelled}
use Rattle.nv_tree.specs.Tree.{Tree}
use Rattle.nv_tree.specs.Refusals.{refusal_word}
use Rattle.nv_tree.specs.declared.refusal.Refusal.{Refusal}
use Rattle.nv_usage.specs.Named.{names_tree}
use Rattle.nv_image_check.specs.Checking.{IsRefusal}
use Rattle.nv_image_check.specs.declared.answered.Answered.{Answered}
use Rattle.nv_logs.specs.declared.inode.Inode.{Inode}
use Rattle.nv_logs.specs.declared.inode.Inode.TheVariants.{Path, Number}
use Rattle.nv_logs.specs.Asking.{IsAsked, IsRefused}
use Rattle.nv_logs.specs.Rows.{IsRowLook}

-- what stands before the names of a path: the path itself, nothing for the root; or `#` and the number
abbrev pub IsTop : Inode → List ℕ → Type 0
IsTop (Path path) top = (names : List (List ℕ)) → IsPath path.items names → top ≡ spelled names
IsTop (Number i) top = top ≡ codes "#" ++ decimal i

-- an inode and all directories that it leads to by names, each with its path
abbrev pub AreFoldersBelow : List Row → ℕ → Inode → List Spot → Type 0
AreFoldersBelow rows i inode folders = (top : List ℕ) × IsTop inode top × AreAllFolders (names_tree rows) (top, i) folders

-- the same with the names of each
abbrev pub IsFoldersText : List Row → ℕ → Inode → Bool → List ℕ → Type 0
IsFoldersText rows i inode long text = (folders : List Spot) × AreFoldersBelow rows i inode folders × AreFolderTexts long rows folders text

-- that of a row's directory with status 0, or its refusal, where it is a file
abbrev pub TellsFoldersOf : List Row → Row → Inode → Bool → List ℕ → ℕ → Type 0
TellsFoldersOf rows row inode long text status = ((row.kind ≡ Directory) × IsFoldersText rows row.inode inode long text × (status ≡ 0))
    ⊎ ((row.kind ≡ File) × IsRefusal (codes "NotDirectory") text status)

-- the same of the inode that is asked for, or why there is none
abbrev pub TellsFolders : Tree → List Row → Inode → Bool → List ℕ → ℕ → Type 0
TellsFolders t rows inode long text status = ((row : Row) × IsAsked t rows inode row × TellsFoldersOf rows row inode long text status)
    ⊎ ((refusal : Refusal) × IsRefused t inode refusal × IsRefusal (refusal_word refusal) text status)

-- by the rows of a region's outcome
abbrev pub IsFoldersLook : Inode → Bool → Region → List ℕ → Answered → Type 0
IsFoldersLook inode long = IsRowLook (λ t rows text status. TellsFolders t rows inode long text status)
