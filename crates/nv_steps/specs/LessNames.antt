-- A name less, and the inode that goes with it, by the rows that stand for them.
use Rattle.std.specs.Prelude.{◌≡◌, ◌⊎◌, ◌↔◌, ℕ, ◌*◌, ◌%◌, ◌<◌, ◌≤◌, nat_eq, if◌then◌else◌, List, ◌++◌, length, map, Some, None}
use Rattle.std.specs.Cmp.Lexicographic.{pointwise}
use Rattle.std.specs.List.{Contains}
use Rattle.nv_region.specs.Region.{Region}
use Rattle.nv_super.specs.declared.owners.Run.{Run}
use Rattle.nv_super.specs.Layout.{system_blocks, Layout}
use Rattle.nv_alloc.specs.FreeValue.{FreeLists}
use Rattle.nv_alloc.specs.FreeLists.{IsFreeIn, JoinAll}
use Rattle.nv_alloc.specs.Taking.{HasBlock, block_run}
use Rattle.nv_entry.specs.declared.entry.Operation.TheVariants.{Remove}
use Rattle.nv_logpage.specs.Append.{AllDiffer, end_of, needed}
use Rattle.nv_names.specs.Names.{EachOnce, name_at}
use Rattle.nv_radix.specs.Pages.{block_at}
use Rattle.nv_scan.specs.declared.piece.Row.{Row}
use Rattle.nv_mounted.specs.Held.{Held, Store}
use Rattle.nv_steps.specs.Given.{MapsOwn}
use Rattle.nv_steps.specs.NameEntries.{name_entries, with_gone}
use Rattle.nv_steps.specs.NewNames.{ShowsNamed}
use Rattle.nv_steps.specs.Steps.{ShowsRow}
use Rattle.nv_steps.specs.Taken.{TakesEach}

-- ---- rows

-- The row has a name less, and a time; its log goes on over these pages up to a new tail.
pub record HasLost (old : Row) (fresh : List ℕ) (end : ℕ) (name : List ℕ) (time : ℕ) (new : Row) : Type 0 where
  pub inode : new.inode ≡ old.inode
  pub kind : new.kind ≡ old.kind
  pub numbers : new.numbers ≡ record old.numbers { time = time }
  pub head : new.head ≡ old.head
  pub tail : new.tail ≡ end
  pub pages : new.pages.items ≡ old.pages.items ++ fresh
  pub index : (p : ℕ) → block_at new.index p ≡ block_at old.index p
  pub names : (q : List ℕ) → name_at new.names q ≡ (if pointwise nat_eq q name then None else name_at old.names q)

-- ---- blocks

-- They are data blocks, none of them free, and none stands twice.
pub record AreOwn (free : FreeLists) (blocks : List ℕ) : Type 0 where
  pub in_data : (b : ℕ) → Contains blocks b → (system_blocks free.sup ≤ b) × (b < free.sup.blocks)
  pub used : (b cpu : ℕ) → Contains blocks b → IsFreeIn free cpu b → ⊥
  pub once : AllDiffer blocks

-- The blocks of a row's log and those of its pages are its own, and its pages begin below the size.
pub record OwnsBlocks (free : FreeLists) (row : Row) : Type 0 where
  pub log : AreOwn free row.pages.items
  pub maps : MapsOwn free row.index
  pub apart : (p b : ℕ) → block_at row.index p ≡ Some b → Contains row.pages.items b → ⊥
  pub below : (p b : ℕ) → block_at row.index p ≡ Some b → p * 4096 < row.numbers.size

-- blocks were given back, each by itself
abbrev pub GivesBlocks : FreeLists → List ℕ → FreeLists → Type 0
GivesBlocks old blocks new = JoinAll old (map block_run blocks) new

-- The blocks of a row's log and of its pages were given back.
pub record GivesRow (old : FreeLists) (row : Row) (new : FreeLists) : Type 0 where
  pub runs : List Run
  pub joined : JoinAll old runs new
  pub blocks : (b : ℕ) → HasBlock runs b ↔ (Contains row.pages.items b ⊎ ((p : ℕ) × (block_at row.index p ≡ Some b)))

-- ---- the step

-- The removal of a name was put behind the log of its directory's row, over blocks that a CPU took one by one, and the inode
-- that it stood for is gone.
pub record CutsName (R S : Region) (l : Layout) (free after : FreeLists) (cpu : ℕ) (old new : Row) (j time : ℕ) (name : List ℕ) : Type 0 where
  pub fresh : List ℕ
  pub taken : TakesEach free cpu fresh after
  pub count : length fresh ≡ needed (old.tail % 4096) (name_entries Remove j name time)
  pub directory : HasLost old fresh (end_of fresh 0 old.tail (name_entries Remove j name time)) name time new
  pub once : EachOnce old.names
  pub once_now : EachOnce new.names
  pub shows : (held : Store) (h : Held) → ShowsRow R l held h old free → ShowsNamed R S l cpu held (with_gone held old.inode h (name_entries Remove j name time) fresh j)
