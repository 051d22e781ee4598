-- A new inode and its name, by the rows that stand for them.
use Rattle.std.specs.Prelude.{◌≡◌, ℕ, ◌+◌, ◌*◌, ◌/◌, ◌%◌, ◌<◌, ◌≤◌, nat_eq, if◌then◌else◌, List, [], ◌∷◌, ◌++◌, length, Some, None, IsTrue}
use Rattle.std.specs.Cmp.Lexicographic.{pointwise}
use Rattle.nv_region.specs.Region.{Region}
use Rattle.nv_super.specs.declared.kind.Kind.{Kind}
use Rattle.nv_super.specs.Layout.{system_blocks, Layout}
use Rattle.nv_inode.specs.Numbers.{has_slot}
use Rattle.nv_journal.specs.Pending.{IsEmpty}
use Rattle.nv_alloc.specs.FreeValue.{FreeLists}
use Rattle.nv_entry.specs.declared.entry.Operation.TheVariants.{Add}
use Rattle.nv_entry.specs.declared.entry.Entry.TheVariants.{Name}
use Rattle.nv_logpage.specs.Append.{end_of, needed, place_of}
use Rattle.nv_radix.specs.Pages.{block_at}
use Rattle.nv_names.specs.Names.{EachOnce, name_at}
use Rattle.nv_scan.specs.declared.piece.Row.{Row}
use Rattle.nv_mounted.specs.Bytes.{byte_of}
use Rattle.nv_mounted.specs.Held.{Held, Store}
use Rattle.nv_commit.specs.Together.{ShowsIdle}
use Rattle.nv_outcome.specs.Same.{SameRow}
use Rattle.nv_steps.specs.Grown.{StandsRight}
use Rattle.nv_steps.specs.Slots.{slot_in}
use Rattle.nv_steps.specs.NameEntries.{first_entries, name_entries, with_named}
use Rattle.nv_steps.specs.Steps.{ShowsRow}
use Rattle.nv_steps.specs.Taken.{TakesEach}
use Rattle.nv_steps.specs.Fronts.{SameFrontBut}

-- ---- where a new inode goes

-- What is known where a new inode of this number gets a name in a row's directory, by a CPU's journal: nothing waits in the
-- journal, the number has a slot, and the tail's page of the directory's log is a data block.
pub record CanName (R : Region) (l : Layout) (cpu j : ℕ) (row : Row) : Type 0 where
  pub cpu_below : cpu < l.sup.cpus
  pub journal_empty : IsEmpty R cpu
  pub number : IsTrue (has_slot l j)
  pub in_data : system_blocks l.sup ≤ row.tail / 4096

-- What is known where both are committed over blocks that the CPU took for them, by the addresses of both slots: the
-- directory's row was made ready.
pub record CanCommitName (R : Region) (l : Layout) (free after : FreeLists) (cpu slot parent : ℕ) (old ready : Row) (j : ℕ) (name : List ℕ) (time : ℕ) (blocks : List ℕ) : Type 0 where
  pub stands : StandsRight R l free old
  pub can : CanName R l cpu j old
  pub slot_is : slot ≡ slot_in l j
  pub parent_is : parent ≡ slot_in l ready.inode
  pub taken : TakesEach free cpu blocks after
  pub count : length blocks ≡ 1 + needed (old.tail % 4096) (name_entries Add j name time)
  pub same : SameRow old ready
  pub once : EachOnce old.names

-- ---- rows

-- The row has a name more, for this inode, by the entry at this place; its log goes on over these pages up to a new tail.
pub record HasNamed (old : Row) (fresh : List ℕ) (end : ℕ) (name : List ℕ) (j place time : ℕ) (new : Row) : Type 0 where
  pub inode : new.inode ≡ old.inode
  pub kind : new.kind ≡ old.kind
  pub numbers : new.numbers ≡ record old.numbers { time = time }
  pub head : new.head ≡ old.head
  pub tail : new.tail ≡ end
  pub pages : new.pages.items ≡ old.pages.items ++ fresh
  pub index : (p : ℕ) → block_at new.index p ≡ block_at old.index p
  pub names : (q : List ℕ) → name_at new.names q ≡ (if pointwise nat_eq q name then Some (j, place) else name_at old.names q)

-- The row of a new inode whose log begins on a page: one link, no bytes and no names.
pub record IsNewRow (j : ℕ) (kind : Kind) (mode time page tail : ℕ) (row : Row) : Type 0 where
  pub inode : row.inode ≡ j
  pub is_of_kind : row.kind ≡ kind
  pub numbers : row.numbers ≡ record { size = 0; mode = mode % 4096; owner = 0; group = 0; links = 1; time = time }
  pub head : row.head ≡ 4096 * page
  pub tail_is : row.tail ≡ tail
  pub pages : row.pages.items ≡ page ∷ []
  pub index : (p : ℕ) → block_at row.index p ≡ None
  pub names : (q : List ℕ) → name_at row.names q ≡ None

-- ---- the step

-- The region shows this, with nothing in its journals, each byte that a file had is where it was, and of the journals that of
-- the CPU alone was used.
pub record ShowsNamed (R S : Region) (l : Layout) (cpu : ℕ) (held after : Store) : Type 0 where
  pub idle : ShowsIdle S l after
  pub bytes : (i : ℕ) (g : Held) → held i ≡ Some g → (x : ℕ) → byte_of S l g x ≡ byte_of R l g x
  pub front : SameFrontBut l.sup.cpus cpu R S

-- where the entry of a new name goes
abbrev pub place_named : List ℕ → ℕ → ℕ → List ℕ → ℕ → ℕ
place_named fresh tail j name time = place_of fresh 0 tail (Name (record { operation = Add; inode = j; time = time; name = name }))

-- A new inode was made over one block, and its name was put behind the log of its directory's row, over further ones. They were
-- taken one by one by a CPU, that of the new log first.
pub record MakesNamed (R S : Region) (l : Layout) (free after : FreeLists) (cpu : ℕ) (old new : Row) (kind : Kind) (mode time j : ℕ) (name : List ℕ) (made : Row) : Type 0 where
  pub page : ℕ
  pub fresh : List ℕ
  pub taken : TakesEach free cpu (page ∷ fresh) after
  pub count : length fresh ≡ needed (old.tail % 4096) (name_entries Add j name time)
  pub directory : HasNamed old fresh (end_of fresh 0 old.tail (name_entries Add j name time)) name j (place_named fresh old.tail j name time) time new
  pub once : EachOnce old.names
  pub once_now : EachOnce new.names
  pub row : IsNewRow j kind mode time page (end_of [] 0 (4096 * page) (first_entries mode time)) made
  pub shows : (held : Store) (h : Held) → ShowsRow R l held h old free → held j ≡ None → ShowsNamed R S l cpu held (with_named held kind mode time j old.inode h name page fresh)
