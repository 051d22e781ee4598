-- A name that is given to another inode of its directory, where the file that had it keeps others, by the rows that stand for both.
use Rattle.std.specs.Prelude.{ℕ, ◌-◌, List, [], ◌∷◌}
use Rattle.nv_region.specs.Region.{Region}
use Rattle.nv_super.specs.Layout.{Layout}
use Rattle.nv_alloc.specs.FreeValue.{FreeLists}
use Rattle.nv_logpage.specs.Append.{end_of}
use Rattle.nv_scan.specs.declared.piece.Row.{Row}
use Rattle.nv_steps.specs.MoreNames.{GetsCount, GrowsTwo}
use Rattle.nv_steps.specs.Moves.{HasMoved}
use Rattle.nv_steps.specs.NameEntries.{links_entries}
use Rattle.nv_steps.specs.Takes.{take_entries, take_place}

-- what a directory's row becomes that has a name for inode i in place of another, and of inode j
abbrev pub TakesName : Row → ℕ → ℕ → List ℕ → List ℕ → ℕ → List ℕ → Row → Type 0
TakesName directory i j name other time fresh now = HasMoved directory fresh (end_of fresh 0 directory.tail
    (take_entries i j name other time)) name other i (take_place fresh directory.tail i j name other time) time now

-- The directory of one row has the name for inode i in place of another, and the file of another row, which had it, counts a link less.
pub record LessensAt (R S : Region) (l : Layout) (free after : FreeLists) (cpu : ℕ) (rows news : List Row) (place target i : ℕ) (name other : List ℕ) (time : ℕ) : Type 0 where
  pub directory : Row
  pub file : Row
  pub step : GrowsTwo R S l free after cpu rows news place directory (take_entries i file.inode name other time) target file (links_entries
      (file.numbers.links - 1) time) (λ fresh now. TakesName directory i file.inode name other time fresh now) (λ more now. GetsCount file (file.numbers.links - 1) time more now)

-- such a step from two rows
abbrev pub Lessened : Region → Layout → FreeLists → ℕ → Row → Row → ℕ → List ℕ → List ℕ → ℕ → Region → Type 0
Lessened R l free cpu directory file i name other time S = (after : FreeLists) × (one : Row) × (two : Row)
    × LessensAt R S l free after cpu (directory ∷ file ∷ []) (one ∷ two ∷ []) 0 1 i name other time
