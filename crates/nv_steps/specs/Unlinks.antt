-- A name less of a file that has others, by the rows that stand for it, and of any file.
use Rattle.std.specs.Prelude.{◌≡◌, ℕ, ◌-◌, nat_eq, if◌then◌else◌, List, None}
use Rattle.std.specs.Cmp.Lexicographic.{pointwise}
use Rattle.nv_region.specs.Region.{Region}
use Rattle.nv_super.specs.Layout.{Layout}
use Rattle.nv_alloc.specs.FreeValue.{FreeLists}
use Rattle.nv_entry.specs.declared.entry.Operation.TheVariants.{Remove}
use Rattle.nv_logpage.specs.Append.{end_of}
use Rattle.nv_names.specs.Names.{name_at}
use Rattle.nv_scan.specs.declared.piece.Row.{Row}
use Rattle.nv_steps.specs.LessNames.{HasLost}
use Rattle.nv_steps.specs.NameEntries.{links_entries, name_entries}
use Rattle.nv_steps.specs.MoreNames.{GetsCount, GrowsTwo, SameLog}

-- The row has a name less, and a time.
pub record DropsName (old : Row) (name : List ℕ) (time : ℕ) (new : Row) : Type 0 where
  pub rest : SameLog old new
  pub numbers : new.numbers ≡ record old.numbers { time = time }
  pub names : (q : List ℕ) → name_at new.names q ≡ (if pointwise nat_eq q name then None else name_at old.names q)

-- what a directory's row becomes that has a name less
abbrev pub LosesName : Row → List ℕ → ℕ → ℕ → List ℕ → Row → Type 0
LosesName directory name j time fresh now = HasLost directory fresh (end_of fresh 0 directory.tail (name_entries Remove j name time)) name time now

-- The directory of one row has a name less, and the file of another counts a link less.
pub record UnlinksAt (R S : Region) (l : Layout) (free after : FreeLists) (cpu : ℕ) (rows news : List Row) (place target : ℕ) (name : List ℕ) (time : ℕ) : Type 0 where
  pub directory : Row
  pub file : Row
  pub step : GrowsTwo R S l free after cpu rows news place directory (name_entries Remove file.inode name time) target file (links_entries
      (file.numbers.links - 1) time) (λ fresh now. LosesName directory name file.inode time fresh now) (λ more now. GetsCount file (file.numbers.links - 1) time more now)
