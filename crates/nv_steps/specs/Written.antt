-- The entries of a write: the blocks and pages that they name, and what is stored and mapped by them.
use Rattle.std.specs.Prelude.{◌≡◌, ◌⊎◌, ℕ, ◌+◌, ◌%◌, ◌^◌, ◌<◌, ◌≤◌, List, ◌++◌, ◌*◌, length, Some}
use Rattle.std.specs.List.{Contains, filter_map}
use Rattle.nv_region.specs.Region.{Region}
use Rattle.nv_region.specs.Stops.{IsMixed}
use Rattle.nv_super.specs.declared.superblock.Super.{Super}
use Rattle.nv_super.specs.declared.owners.Run.{Run}
use Rattle.nv_super.specs.Layout.{system_blocks, most_size, Layout}
use Rattle.nv_alloc.specs.FreeValue.{FreeLists}
use Rattle.nv_alloc.specs.FreeLists.{IsFreeIn, IsSound, Leave, Took}
use Rattle.nv_alloc.specs.Taking.{HasBlock, Takes, all_blocks}
use Rattle.nv_entry.specs.declared.entry.WriteEntry.{WriteEntry}
use Rattle.nv_entry.specs.declared.entry.Entry.{Entry}
use Rattle.nv_entry.specs.declared.entry.Entry.TheVariants.{Write}
use Rattle.nv_logpage.specs.Append.{needed}
use Rattle.nv_radix.specs.Pages.{AreReady, Pages, block_at}
use Rattle.nv_bytes.specs.Bytes.{LieInside, byte_after, file_byte}
use Rattle.nv_bytes.specs.Storing.{HoldsPage, InBlocks}
use Rattle.nv_scan.specs.declared.piece.Row.{Row}
use Rattle.nv_mounted.specs.Held.{Held, Store}
use Rattle.nv_mounted.specs.Writes.{blocks_in_entry, pages_in_entry}
use Rattle.nv_commit.specs.Extends.{CanExtend, ExtendWords, ShowsMoved, with_log}
use Rattle.nv_steps.specs.Steps.{LogFollows, ShowsRow}
use Rattle.nv_steps.specs.Taken.{SamePools, TakesEach}
use Rattle.nv_tree.specs.declared.refusal.Refusal.{Refusal}
use Rattle.nv_tree.specs.declared.refusal.Refusal.TheVariants.{Memory, NoSpace, Stopped}
use Rattle.nv_steps.specs.Writes.{NeedsBlocks, data_blocks, data_entries}
use Rattle.nv_steps.specs.Zeros.{ZerosFrom}
use Rattle.nv_steps.specs.declared.planning.Plan.{Plan}

-- the blocks that these entries write, run by run
abbrev pub entry_blocks : List Entry → List Run
entry_blocks entries = filter_map blocks_in_entry entries

-- the pages that they write
abbrev pub entry_pages : List Entry → List Run
entry_pages entries = filter_map pages_in_entry entries

-- the pages have small numbers
abbrev pub AreSmall : List Entry → Type 0
AreSmall entries = (w : WriteEntry) → Contains entries (Write w) → w.offset + w.count ≤ 2 ^ 32

-- each block holds a file's bytes of its page
abbrev pub HoldEntries : Region → (ℕ → ℕ) → List Entry → Type 0
HoldEntries R bytes entries = (w : WriteEntry) → Contains entries (Write w) → (k : ℕ) → k < w.count → HoldsPage R bytes (w.block + k) (w.offset + k)

-- The pages that the entries write map to their blocks, and the others to what they did.
pub record MapsEntries (old : Pages) (entries : List Entry) (new : Pages) : Type 0 where
  pub here : (w : WriteEntry) → Contains entries (Write w) → (k : ℕ) → k < w.count → block_at new (w.offset + k) ≡ Some (w.block + k)
  pub others : (p : ℕ) → (HasBlock (entry_pages entries) p → ⊥) → block_at new p ≡ block_at old p

-- the pages of the entries can be mapped without memory
abbrev pub AreSettled : Pages → List Entry → Type 0
AreSettled m entries = (w : WriteEntry) → Contains entries (Write w) → AreReady m w.offset w.count × (w.block + w.count ≤ 2 ^ 64)

-- What is known of the row of a file: where its blocks lie, that they aren't free, and that no two pages share one.
pub record FileStands (R : Region) (s : Super) (free : FreeLists) (row : Row) : Type 0 where
  pub inside : LieInside R row.index
  pub «data» : (p b : ℕ) → block_at row.index p ≡ Some b → (system_blocks s ≤ b) × (b < s.blocks)
  pub used : (p b cpu : ℕ) → block_at row.index p ≡ Some b → IsFreeIn free cpu b → ⊥
  pub once : (p q b : ℕ) → block_at row.index p ≡ Some b → block_at row.index q ≡ Some b → p ≡ q
  pub below : (p b : ℕ) → block_at row.index p ≡ Some b → p * 4096 < row.numbers.size
  pub small : row.numbers.size ≤ most_size

-- A CPU took blocks for the pages of a write, and then pages for its entries, one by one.
pub record Prepared (old : FreeLists) (cpu tail : ℕ) (plan : Plan) (entries : List Entry) (fresh : List ℕ) (new : FreeLists) : Type 0 where
  pub from : FreeLists
  pub same : SamePools old from
  pub sound : IsSound from
  pub runs : List Run
  pub mid : FreeLists
  pub took : Took from cpu (data_blocks plan) runs mid
  pub leave : Leave from (data_blocks plan) runs mid
  pub between : IsSound mid
  pub says : entries ≡ data_entries plan runs
  pub taken : TakesEach mid cpu fresh new
  pub count : length fresh ≡ needed (tail % 4096) entries

-- The new bytes were stored into the entries' blocks, and then the entries written behind the log's tail.
pub record Commits (R S : Region) (l : Layout) (inode slot tail : ℕ) (bytes : ℕ → ℕ) (entries : List Entry) (fresh : List ℕ) : Type 0 where
  pub mid : Region
  pub «data» : IsMixed R (InBlocks (HasBlock (entry_blocks entries))) mid
  pub holds : HoldEntries mid bytes entries
  pub moved : (held : Store) (h : Held) → CanExtend mid l held inode h slot tail entries fresh → ShowsMoved mid l (with_log held inode h entries fresh) S
  pub mixed : IsMixed mid (ExtendWords slot tail entries fresh) S

-- why a write is refused: there are fewer blocks than it needs, or memory or the store refused it
abbrev pub RefusesWrite : Refusal → FreeLists → ℕ → ℕ → Plan → Type 0
RefusesWrite e free cpu tail plan = (e ≡ Memory) ⊎ ((e ≡ Stopped) ⊎ ((e ≡ NoSpace) × ((count : ℕ) → NeedsBlocks free.pools cpu tail plan count → all_blocks free.pools < count)))

-- Then the row has the entries' pages, and the size and time of the write.
pub record HasWritten (old : Row) (plan : Plan) (entries : List Entry) (fresh : List ℕ) (end : ℕ) (new : Row) : Type 0 where
  pub inode : new.inode ≡ old.inode
  pub kind : new.kind ≡ old.kind
  pub numbers : new.numbers ≡ record old.numbers { size = plan.size; time = plan.time }
  pub head : new.head ≡ old.head
  pub tail : new.tail ≡ end
  pub pages : new.pages.items ≡ old.pages.items ++ fresh
  pub index : MapsEntries old.index entries new.index
  pub names : new.names ≡ old.names

-- What a write makes of the row of its file: the blocks that a CPU takes at once decide its entries, by which the log grows over
-- blocks that it takes from the rest. Each byte is the new one, or what it was, or zero, and behind the file's end all that was
-- stored is zeros.
pub record WritesFile (R S : Region) (l : Layout) (free after : FreeLists) (cpu : ℕ) (plan : Plan) (offset : ℕ) (new : List ℕ) (old now : Row) : Type 0 where
  pub runs : List Run
  pub rest : List (List Run)
  pub taken : Takes free.pools cpu (data_blocks plan) runs rest
  pub follows : (held : Store) (h : Held) → ShowsRow R l held h old free → LogFollows R S l held h (data_entries plan runs) rest cpu old now after
  pub inode : now.inode ≡ old.inode
  pub kind : now.kind ≡ old.kind
  pub numbers : now.numbers ≡ record old.numbers { size = plan.size; time = plan.time }
  pub names : now.names ≡ old.names
  pub bytes : (held : Store) (h : Held) → ShowsRow R l held h old free → (x : ℕ) → x < plan.size → file_byte S now.index x ≡ byte_after offset new old.numbers.size (file_byte R old.index) x
  pub zeros : (held : Store) (h : Held) → ShowsRow R l held h old free → ZerosFrom S plan.size (data_entries plan runs)
