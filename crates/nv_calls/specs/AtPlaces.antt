-- What the steps of names make of all rows.
use Rattle.std.specs.Prelude.{◌≡◌, ℕ, List, set, slice_get, Some, ◌⊎◌, ◌≤◌, remove, None, ◌+◌, ◌-◌, ◌%◌, ◌<◌, nat_lt, if◌then◌else◌, Result, IfErr}
use Rattle.nv_region.specs.Region.{Region}
use Rattle.nv_region.specs.Stops.{Choices}
use Rattle.nv_region.specs.Fuses.{FuseState}
use Rattle.nv_super.specs.declared.kind.Kind.{Kind}
use Rattle.nv_alloc.specs.FreeValue.{FreeLists}
use Rattle.nv_scan.specs.declared.piece.Row.{Row}
use Rattle.nv_rows.specs.Rows.{HasInserted}
use Rattle.nv_rows.specs.RowList.{RowList}
use Rattle.nv_tree.specs.declared.refusal.Refusal.{Refusal}
use Rattle.nv_tree.specs.declared.refusal.Refusal.TheVariants.{Stopped}
use Rattle.nv_steps.specs.Keeping.{SettlesStep}
use Rattle.nv_outcome.specs.Same.{SameRows}
use Rattle.nv_steps.specs.Taken.{SamePools}
use Rattle.nv_steps.specs.NewNames.{MakesNamed}
use Rattle.nv_super.specs.declared.kind.Kind.TheVariants.{File, Directory}
use Rattle.nv_super.specs.Layout.{Layout}
use Rattle.nv_names.specs.Names.{name_at}
use Rattle.nv_steps.specs.LessNames.{CutsName, GivesRow}
use Rattle.nv_entry.specs.declared.entry.Operation.TheVariants.{Remove}
use Rattle.nv_logpage.specs.Append.{needed}
use Rattle.nv_steps.specs.NameEntries.{links_entries, name_entries}
use Rattle.nv_steps.specs.Unlinks.{UnlinksAt}

-- A new inode and its name were made in the directory whose row is at this place, and the new inode's row was put in.
pub record CreatesAt (R S : Region) (l : Layout) (free after : FreeLists) (cpu : ℕ) (rows news : List Row) (place : ℕ) (kind : Kind) (mode time j : ℕ) (name : List ℕ) : Type 0 where
  pub row : Row
  pub now : Row
  pub made : Row
  pub at : slice_get rows place ≡ Some row
  pub step : MakesNamed R S l free after cpu row now kind mode time j name made
  pub put : HasInserted (set rows place now) news made

-- a step on rows that was refused has changed nothing
pub record LeavesRows {P : Type 0} (old new : P) (before after : FreeLists) (had has' : List Row) : Type 0 where
  pub memory : new ≡ old
  pub free : SamePools before after
  pub rows : SameRows had has'

-- What such a step keeps, with what every step does: where it was refused but by a stop, it has changed nothing, and the numbers
-- that rows can have stay.
pub record KeepsRows {M T : Type 0} (region : M → Region) (may_hold : M → Choices) (fuse : M → FuseState) (old new : M) (before after : FreeLists) (had has' : RowList)
    (result : Result T Refusal) : Type 0 where
  pub step : SettlesStep region may_hold fuse old new before after result
  pub open step use *
  pub unchanged : IfErr result (λ e. (e ≡ Stopped → ⊥) → LeavesRows old new before after had.items has'.items)
  pub tables : (has'.sup ≡ had.sup) × (has'.sizes ≡ had.sizes)

-- an inode that can go with a name: a directory without names, or a file with no further link
abbrev pub CanGo : Row → Type 0
CanGo row = ((row.kind ≡ Directory) × ((q : List ℕ) → name_at row.names q ≡ None)) ⊎ ((row.kind ≡ File) × (row.numbers.links ≤ 1))

-- A name went from the directory whose row is at one place, and with it the inode whose row was at another. That row was taken
-- out, and its blocks were given back.
pub record RemovesAt (R S : Region) (l : Layout) (free after : FreeLists) (cpu : ℕ) (rows news : List Row) (place target : ℕ) (name : List ℕ) (time : ℕ) : Type 0 where
  pub row : Row
  pub gone : Row
  pub now : Row
  pub mid : FreeLists
  pub at : slice_get rows place ≡ Some row
  pub gone_at : slice_get rows target ≡ Some gone
  pub step : CutsName R S l free mid cpu row now gone.inode time name
  pub given : GivesRow mid gone after
  pub put : news ≡ remove (set rows place now) target

-- The same without what was given back.
pub record CutsAt (R S : Region) (l : Layout) (free mid : FreeLists) (cpu : ℕ) (rows news : List Row) (place target : ℕ) (name : List ℕ) (time : ℕ) : Type 0 where
  pub row : Row
  pub gone : Row
  pub now : Row
  pub at : slice_get rows place ≡ Some row
  pub gone_at : slice_get rows target ≡ Some gone
  pub step : CutsName R S l free mid cpu row now gone.inode time name
  pub put : news ≡ remove (set rows place now) target

-- what is left of a step when what it gave back is left out
abbrev pub cut_of : {R S : Region} {l : Layout} {free after : FreeLists} {cpu : ℕ} {rows news : List Row} {place target : ℕ} {name : List ℕ} {time : ℕ}
    → (step : RemovesAt R S l free after cpu rows news place target name time) → CutsAt R S l free step.mid cpu rows news place target name time
cut_of step = record { row = step.row; gone = step.gone; now = step.now; at = step.at; gone_at = step.gone_at; step = step.step; put = step.put }

-- where the file has other names, one name and one link of it went; else it went with the name
abbrev pub Releases : Region → Region → Layout → FreeLists → FreeLists → ℕ → List Row → List Row → ℕ → ℕ → List ℕ → ℕ → Type 0
Releases R S l free after cpu rows news place target name time =
    (((file : Row) → slice_get rows target ≡ Some file → 1 < file.numbers.links) × UnlinksAt R S l free after cpu rows news place target name time)
    ⊎ (((file : Row) → slice_get rows target ≡ Some file → file.numbers.links ≤ 1) × RemovesAt R S l free after cpu rows news place target name time)

-- the same without what was given back
abbrev pub ReleasesAt : Region → Region → Layout → FreeLists → ℕ → List Row → List Row → ℕ → ℕ → List ℕ → ℕ → Type 0
ReleasesAt R S l free cpu rows news place target name time =
    (((file : Row) → slice_get rows target ≡ Some file → 1 < file.numbers.links) × ((after : FreeLists) × UnlinksAt R S l free after cpu rows news place target name time))
    ⊎ (((file : Row) → slice_get rows target ≡ Some file → file.numbers.links ≤ 1) × ((mid : FreeLists) × CutsAt R S l free mid cpu rows news place target name time))

-- how many blocks it takes
abbrev pub release_blocks : Row → Row → List ℕ → ℕ → ℕ
release_blocks row file name time = needed (row.tail % 4096) (name_entries Remove file.inode name time)
    + (if nat_lt 1 file.numbers.links then needed (file.tail % 4096) (links_entries (file.numbers.links - 1) time) else 0)
