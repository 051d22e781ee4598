-- What is given where a step is made: the rows whose logs grow, the inode that comes or goes with them, and what they grow by.
use Rattle.std.specs.Prelude.{◌≡◌, ◌≢◌, ℕ, ◌+◌, ◌*◌, ◌/◌, ◌%◌, ◌^◌, ◌<◌, ◌≤◌, List, [], ◌∷◌, length, Option, true, IsTrue, IfSome}
use Rattle.std.specs.List.{Contains}
use Rattle.smallvec.specs.SmallVec.{HasRoomFor}
use Rattle.nv_region.specs.Region.{HasBlocks, Region, size}
use Rattle.nv_super.specs.Layout.{Layout, most_pages, most_size}
use Rattle.nv_super.specs.declared.kind.Kind.TheVariants.{File}
use Rattle.nv_super.specs.declared.owners.Run.{Run}
use Rattle.nv_inode.specs.Numbers.{has_slot, next_number}
use Rattle.nv_inode.specs.Slot.{is_right_log}
use Rattle.nv_inode.specs.Tables.{HasRoom, TableChains}
use Rattle.nv_alloc.specs.FreeValue.{FreeLists}
use Rattle.nv_alloc.specs.Taking.{blocks_in}
use Rattle.nv_entry.specs.declared.entry.AttrEntry.{AttrEntry}
use Rattle.nv_entry.specs.declared.entry.Entry.{Entry}
use Rattle.nv_logpage.specs.Append.{CanAppend, EndBy}
use Rattle.nv_names.specs.Names.{IsName}
use Rattle.nv_radix.specs.Pages.{Pages, block_at}
use Rattle.nv_bytes.specs.Bytes.{LieInside}
use Rattle.nv_bytes.specs.Storing.{AreFresh}
use Rattle.nv_scan.specs.declared.piece.Row.{Row}
use Rattle.nv_steps.specs.Grown.{StandsRight}
use Rattle.nv_steps.specs.GrownTables.{CanGrow, CanNameNext}
use Rattle.nv_steps.specs.LessNames.{AreOwn}
use Rattle.nv_steps.specs.NewNames.{CanName}
use Rattle.nv_steps.specs.Sizes.{CanResize, end_block}
use Rattle.nv_steps.specs.Taken.{TakesEach}
use Rattle.nv_steps.specs.Writes.{data_blocks, plan_of}
use Rattle.nv_steps.specs.Written.{AreSmall, FileStands, entry_blocks}
use Rattle.nv_steps.specs.declared.planning.Plan.{Plan}

-- ---- logs that grow

-- The log of a row can grow over blocks that a CPU takes: the CPU is one of the region's, and the row stands right. What is given
-- besides is said of that by which it grows.
pub record CanAppendLog (R : Region) (l : Layout) (free : FreeLists) (cpu : ℕ) (row : Row) (Given : Type 0) : Type 0 where
  pub cpu_below : cpu < free.sup.cpus
  pub stands : StandsRight R l free row
  pub given : Given

-- The log of a row can grow as an inode of this number comes or goes, by a CPU's journal.
pub record CanAppendWith (R : Region) (l : Layout) (free : FreeLists) (cpu j : ℕ) (row : Row) (Given : Type 0) : Type 0 where
  pub stands : StandsRight R l free row
  pub can : CanName R l cpu j row
  pub given : Given

-- The logs of two rows can grow together, by a CPU's journal: they are of different inodes, and both stand right.
pub record CanAppendLogs (R : Region) (l : Layout) (free : FreeLists) (cpu : ℕ) (row other : Row) (Given : Type 0) : Type 0 where
  pub apart : row.inode ≢ other.inode
  pub stands : StandsRight R l free row × CanName R l cpu row.inode row
  pub other_stands : StandsRight R l free other × CanName R l cpu other.inode other
  pub given : Given

-- The same, as a third inode goes, which has a slot.
pub record CanAppendLogsLess (R : Region) (l : Layout) (free : FreeLists) (cpu : ℕ) (row other : Row) (gone : ℕ) (Given : Type 0) : Type 0 where
  pub logs : CanAppendLogs R l free cpu row other Given
  pub open logs use *
  pub number : IsTrue (has_slot l gone)
  pub differ : row.inode ≢ gone
  pub other_differs : other.inode ≢ gone

-- The logs of three rows can grow together, by a CPU's journal: no two are of one inode, and all stand right.
pub record CanAppendThreeLogs (R : Region) (l : Layout) (free : FreeLists) (cpu : ℕ) (row other last : Row) (Given : Type 0) : Type 0 where
  pub apart : (row.inode ≢ other.inode) × (row.inode ≢ last.inode) × (other.inode ≢ last.inode)
  pub stands : StandsRight R l free row × CanName R l cpu row.inode row
  pub other_stands : StandsRight R l free other × CanName R l cpu other.inode other
  pub last_stands : StandsRight R l free last × CanName R l cpu last.inode last
  pub given : Given

-- The log in this slot can grow from its tail over these blocks, and its slot lies in the region.
pub record CanExtendAt (R : Region) (slot tail : ℕ) (entries : List Entry) (fresh : List ℕ) (Given : Type 0) : Type 0 where
  pub can : CanAppend R tail entries fresh
  pub whole : slot % 8 ≡ 0
  pub inside : slot + 32 ≤ size R
  pub given : Given

-- A page can be taken out of the log of a row: the row stands right, and the log's pages are its own and lie in the region. A page
-- that is known as the one that the log can do without isn't the last.
pub record CanClean (R : Region) (l : Layout) (free : FreeLists) (row : Row) (known : Option ℕ) : Type 0 where
  pub stands : StandsRight R l free row
  pub blocks : HasBlocks R l.sup.blocks
  pub right : is_right_log l.sup row.head row.tail ≡ true
  pub inside : EndBy row.pages.items (size R)
  pub own : AreOwn free row.pages.items
  pub before_last : IfSome known (λ k. k + 1 < length row.pages.items)

-- ---- what they grow by

-- The row has room for these blocks among its log's pages and for a name more, and the name is one.
pub record CanPutName (row : Row) (blocks name : List ℕ) : Type 0 where
  pub pages : HasRoomFor row.pages (length blocks)
  pub names : 0 < row.names.room
  pub is_name : IsName name

-- New bytes can be written into the file of a row: it stands right, the bytes are some and fit into a file, and the plan is
-- theirs.
pub record CanWrite (R : Region) (l : Layout) (free : FreeLists) (cpu : ℕ) (row : Row) (plan : Plan) (offset : ℕ) (new : List ℕ) (bytes : ℕ) : Type 0 where
  pub cpu_below : cpu < free.sup.cpus
  pub stands : StandsRight R l free row
  pub kind : row.kind ≡ File
  pub file : FileStands R l.sup free row
  pub some : 0 < length new
  pub fits : offset + length new ≤ most_size
  pub size_is : bytes ≡ row.numbers.size
  pub plan_is : plan ≡ plan_of (block_at row.index) row.numbers.size offset (length new) plan.time

-- A write can be made ready by its plan: the CPU is one, and all its pages are such as a file has.
pub record CanPrepare (free : FreeLists) (cpu : ℕ) (plan : Plan) (Given : Type 0) : Type 0 where
  pub cpu_below : cpu < free.sup.cpus
  pub pages : plan.first + plan.pages ≤ most_pages
  pub ending : IfSome plan.ending (λ p. p < most_pages)
  pub given : Given

-- These are some runs, none of them empty, with as many blocks as the pages of a write need.
pub record AreRunsFor (plan : Plan) (runs : List Run) : Type 0 where
  pub some : 0 < length runs
  pub blocks : (r : Run) → Contains runs r → (0 < r.count) × (r.start < 2 ^ 62)
  pub count : blocks_in runs ≡ data_blocks plan

-- The data of these entries can be stored: what the file has lies in the region, and their blocks are none of its own.
pub record CanStoreData (R : Region) (m : Pages) (entries : List Entry) (offset : ℕ) (new : List ℕ) : Type 0 where
  pub mapped : LieInside R m
  pub fresh : AreFresh R m (entry_blocks entries)
  pub pages : AreSmall entries
  pub small : offset + length new ≤ 2 ^ 62

-- The page in which a file of so many bytes ends can be copied from a block into another: both lie in the region.
pub record CanCopyPage (R : Region) (from to bytes : ℕ) : Type 0 where
  pub from_inside : from * 4096 + 4096 ≤ size R
  pub apart : from ≡ to → ⊥
  pub to_inside : to * 4096 + 4096 ≤ size R
  pub page : bytes / 4096 < 2 ^ 32

-- A file can get these attributes with their size, and this is the block of the page in which it ends then, if it is copied.
pub record CanResizeFrom (R : Region) (l : Layout) (free : FreeLists) (row : Row) (x : AttrEntry) (from : Option ℕ) : Type 0 where
  pub can : CanResize R l free row x
  pub ends : end_block (block_at row.index) row.numbers.size x.size ≡ from

-- ---- tables that grow

-- A block that a CPU took can be linked to its chain, and the tables have room for it.
pub record CanLinkBlock (R : Region) (tables : TableChains) (cpu block : ℕ) : Type 0 where
  pub can : (free : FreeLists) × (after : FreeLists) × CanGrow R tables.layout free cpu × TakesEach free cpu (block ∷ []) after
  pub room : HasRoom tables cpu

-- A CPU's table can grow for a new inode, which gets the first number that has no slot, and a name in a row's directory.
pub record CanMakeGrown (R : Region) (tables : TableChains) (free : FreeLists) (cpu : ℕ) (row : Row) (j : ℕ) (name : List ℕ) : Type 0 where
  pub stands : StandsRight R tables.layout free row
  pub can : CanNameNext R tables.layout free cpu row
  pub number : j ≡ next_number tables.layout cpu
  pub is_name : IsName name
  pub room : HasRoom tables cpu
