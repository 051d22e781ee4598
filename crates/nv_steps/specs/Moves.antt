-- A name that becomes another in its directory, by the row that stands for it.
use Rattle.std.specs.Prelude.{◌≡◌, ℕ, ◌+◌, ◌%◌, nat_eq, if◌then◌else◌, List, [], ◌∷◌, ◌++◌, length, Some, None}
use Rattle.std.specs.Cmp.Lexicographic.{pointwise}
use Rattle.nv_region.specs.Region.{Region}
use Rattle.nv_region.specs.Stops.{IsMixed}
use Rattle.nv_super.specs.Layout.{Layout}
use Rattle.nv_alloc.specs.FreeValue.{FreeLists}
use Rattle.nv_entry.specs.declared.entry.Operation.TheVariants.{Add, Remove}
use Rattle.nv_entry.specs.declared.entry.Entry.{Entry}
use Rattle.nv_entry.specs.declared.entry.Entry.TheVariants.{Name}
use Rattle.nv_entry.specs.Spelling.{entry_length}
use Rattle.nv_logpage.specs.Append.{end_of, needed, pages_after, place_of}
use Rattle.nv_names.specs.Names.{EachOnce, Names, name_at}
use Rattle.nv_radix.specs.Pages.{block_at}
use Rattle.nv_scan.specs.declared.piece.Row.{Row}
use Rattle.nv_mounted.specs.Held.{Held, Store}
use Rattle.nv_commit.specs.Extends.{CanExtend, ExtendWords, ShowsMoved, with_log}
use Rattle.nv_steps.specs.Taken.{TakesEach}
use Rattle.nv_steps.specs.Slots.{slot_in}

-- the entries of an inode that gets another name in its directory
abbrev pub move_entries : ℕ → List ℕ → List ℕ → ℕ → List Entry
move_entries i name other time = Name (record { operation = Remove; inode = i; time = time; name = name }) ∷ Name (record { operation = Add; inode = i; time = time; name = other }) ∷ []

-- where the second of these entries goes
abbrev pub move_place : List ℕ → ℕ → ℕ → List ℕ → List ℕ → ℕ → ℕ
move_place fresh tail i name other time =
    let removal = Name (record { operation = Remove; inode = i; time = time; name = name }) in
    place_of fresh (pages_after 0 tail removal) (place_of fresh 0 tail removal + entry_length removal) (Name (record { operation = Add; inode = i; time = time; name = other }))

-- The row has another name for an inode in place of one, and a time; its log goes on over these pages up to a new tail. Between
-- them the index lacks the first name.
pub record HasMoved (old : Row) (fresh : List ℕ) (end : ℕ) (name other : List ℕ) (i spot time : ℕ) (new : Row) : Type 0 where
  pub inode : new.inode ≡ old.inode
  pub kind : new.kind ≡ old.kind
  pub numbers : new.numbers ≡ record old.numbers { time = time }
  pub head : new.head ≡ old.head
  pub tail : new.tail ≡ end
  pub pages : new.pages.items ≡ old.pages.items ++ fresh
  pub index : (p : ℕ) → block_at new.index p ≡ block_at old.index p
  pub between : Names
  pub lost : (q : List ℕ) → name_at between q ≡ (if pointwise nat_eq q name then None else name_at old.names q)
  pub names : (q : List ℕ) → name_at new.names q ≡ (if pointwise nat_eq q other then Some (i, spot) else name_at between q)
  pub once : EachOnce old.names
  pub once_between : EachOnce between
  pub once_now : EachOnce new.names

-- Both entries were written behind the log of a directory's row, over blocks that a CPU took for them one by one.
pub record MovesWithin (R S : Region) (l : Layout) (free after : FreeLists) (cpu : ℕ) (old new : Row) (i : ℕ) (name other : List ℕ) (time : ℕ) : Type 0 where
  pub fresh : List ℕ
  pub taken : TakesEach free cpu fresh after
  pub count : length fresh ≡ needed (old.tail % 4096) (move_entries i name other time)
  pub row : HasMoved old fresh (end_of fresh 0 old.tail (move_entries i name other time)) name other i (move_place fresh old.tail i name other time) time new
  pub moved : (held : Store) (h : Held) → CanExtend R l held old.inode h (slot_in l old.inode) old.tail (move_entries i name other time) fresh
      → ShowsMoved R l (with_log held old.inode h (move_entries i name other time) fresh) S
  pub mixed : IsMixed R (ExtendWords (slot_in l old.inode) old.tail (move_entries i name other time) fresh) S
