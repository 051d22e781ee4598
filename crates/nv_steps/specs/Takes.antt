-- A log that grows while another inode goes, by the row that stands for it; and a name that is given to another inode so.
use Rattle.std.specs.Prelude.{◌≡◌, ℕ, ◌+◌, ◌%◌, List, [], ◌∷◌, length}
use Rattle.nv_region.specs.Region.{Region}
use Rattle.nv_super.specs.Layout.{Layout}
use Rattle.nv_alloc.specs.FreeValue.{FreeLists}
use Rattle.nv_entry.specs.declared.entry.Operation.TheVariants.{Add, Remove}
use Rattle.nv_entry.specs.declared.entry.Entry.{Entry}
use Rattle.nv_entry.specs.declared.entry.Entry.TheVariants.{Name}
use Rattle.nv_entry.specs.Spelling.{entry_length}
use Rattle.nv_logpage.specs.Append.{end_of, needed, pages_after, place_of}
use Rattle.nv_scan.specs.declared.piece.Row.{Row}
use Rattle.nv_mounted.specs.Held.{Held, Store}
use Rattle.nv_steps.specs.MoreNames.{GrowsSame, NamesOnce}
use Rattle.nv_steps.specs.Moves.{HasMoved}
use Rattle.nv_steps.specs.NameEntries.{with_gone}
use Rattle.nv_steps.specs.NewNames.{ShowsNamed}
use Rattle.nv_steps.specs.Steps.{ShowsRow}
use Rattle.nv_steps.specs.Taken.{TakesEach}

-- Entries were put behind the log of a row, over blocks that a CPU took one by one, and another inode is gone.
pub record AppendsLess (R S : Region) (l : Layout) (free after : FreeLists) (cpu : ℕ) (old new : Row) (j : ℕ) (entries : List Entry) : Type 0 where
  pub fresh : List ℕ
  pub taken : TakesEach free cpu fresh after
  pub count : length fresh ≡ needed (old.tail % 4096) entries
  pub row : GrowsSame old fresh (end_of fresh 0 old.tail entries) new
  pub once : NamesOnce old new
  pub shows : (held : Store) (h : Held) → ShowsRow R l held h old free → ShowsNamed R S l cpu held (with_gone held old.inode h entries fresh j)

-- such a step from a row, whatever the row and the free lists become
abbrev pub AppendedLess : Region → Layout → FreeLists → ℕ → Row → ℕ → List Entry → Region → Type 0
AppendedLess R l free cpu old j entries S = (after : FreeLists) × (now : Row) × AppendsLess R S l free after cpu old now j entries

-- ---- a name that is given to another inode

-- the entries that take a name from inode j and give it to inode i, in place of another of the same directory
abbrev pub take_entries : ℕ → ℕ → List ℕ → List ℕ → ℕ → List Entry
take_entries i j name other time =
    Name (record { operation = Remove; inode = i; time = time; name = name }) ∷ Name (record { operation = Remove; inode = j; time = time; name = other }) ∷ Name (record
    { operation = Add; inode = i; time = time; name = other }) ∷ []

-- where the last of these entries goes
abbrev pub take_place : List ℕ → ℕ → ℕ → ℕ → List ℕ → List ℕ → ℕ → ℕ
take_place fresh tail i j name other time =
    let first = Name (record { operation = Remove; inode = i; time = time; name = name }) in
    let second = Name (record { operation = Remove; inode = j; time = time; name = other }) in
    let spot = place_of fresh 0 tail first + entry_length first in
    let pages = pages_after 0 tail first in
    place_of fresh (pages_after pages spot second) (place_of fresh pages spot second + entry_length second) (Name (record { operation = Add; inode = i; time = time; name = other }))

-- The entries were put behind the log of a directory's row, and inode j is gone. The row has the name for inode i in place of the
-- other.
pub record TakesWithin (R S : Region) (l : Layout) (free after : FreeLists) (cpu : ℕ) (old new : Row) (i j : ℕ) (name other : List ℕ) (time : ℕ) : Type 0 where
  pub fresh : List ℕ
  pub taken : TakesEach free cpu fresh after
  pub count : length fresh ≡ needed (old.tail % 4096) (take_entries i j name other time)
  pub row : HasMoved old fresh (end_of fresh 0 old.tail (take_entries i j name other time)) name other i (take_place fresh old.tail i j name other time) time new
  pub shows : (held : Store) (h : Held) → ShowsRow R l held h old free → ShowsNamed R S l cpu held (with_gone held old.inode h (take_entries i j name other time) fresh j)

-- such a step from a row
abbrev pub TookWithin : Region → Layout → FreeLists → ℕ → Row → ℕ → ℕ → List ℕ → List ℕ → ℕ → Region → Type 0
TookWithin R l free cpu old i j name other time S = (after : FreeLists) × (now : Row) × TakesWithin R S l free after cpu old now i j name other time
