-- What `set_size` writes, and what it makes of a file.
use Rattle.std.specs.Prelude.{◌≡◌, ℕ, suc, ◌/◌, ◌%◌, ◌<◌, ◌≤◌, nat_lt, nat_eq, not, ◌&&◌, if◌then◌else◌, is_some, List, [], ◌∷◌, Option, Some, None}
use Rattle.nv_region.specs.Region.{Region}
use Rattle.nv_region.specs.Stops.{IsMixed}
use Rattle.nv_super.specs.declared.kind.Kind.TheVariants.{File}
use Rattle.nv_super.specs.Layout.{most_size, Layout}
use Rattle.nv_super.specs.declared.owners.Run.{Run}
use Rattle.nv_alloc.specs.FreeValue.{FreeLists}
use Rattle.nv_alloc.specs.Taking.{TakesSingly}
use Rattle.nv_entry.specs.declared.entry.AttrEntry.{AttrEntry}
use Rattle.nv_entry.specs.declared.entry.Entry.{Entry}
use Rattle.nv_entry.specs.declared.entry.Entry.TheVariants.{Attr, Write}
use Rattle.nv_logpage.specs.Append.{needed}
use Rattle.nv_radix.specs.Pages.{block_at}
use Rattle.nv_scan.specs.declared.piece.Row.{Row}
use Rattle.nv_mounted.specs.Held.{Held, Store}
use Rattle.nv_mounted.specs.Blocks.{IsUnowned}
use Rattle.nv_mounted.specs.Bytes.{byte_in}
use Rattle.nv_commit.specs.Extends.{CanExtend, ExtendWords, ShowsMoved, with_log}
use Rattle.nv_bytes.specs.Bytes.{byte_after}
use Rattle.nv_bytes.specs.Storing.{HoldsPage, InBlocks}
use Rattle.nv_tree.specs.Tree.{Node}
use Rattle.nv_steps.specs.Given.{MapsOwn}
use Rattle.nv_steps.specs.Grown.{StandsRight}
use Rattle.nv_steps.specs.Steps.{LogFollows, ShowsRow}
use Rattle.nv_steps.specs.Zeros.{ZerosFrom}

-- The block of the page in which a file ends, where the file gets longer and has bytes of that page.
abbrev pub end_block : (ℕ → Option ℕ) → ℕ → ℕ → Option ℕ
end_block blocks old new = if nat_lt old new && not (nat_eq (old % 4096) 0) then blocks (old / 4096) else None

-- The entries that give a file of an old size these attributes: its last page was copied into a block, or it stays.
abbrev pub resizing : ℕ → AttrEntry → Option ℕ → List Entry
resizing old x None = Attr x ∷ []
resizing old x (Some b) = Write (record { offset = old / 4096; count = 1; block = b; size = x.size; time = x.time }) ∷ Attr x ∷ []

-- the attributes of an inode with another size
abbrev pub sized : Node → ℕ → ℕ → AttrEntry
sized node size time = record { mode = node.mode; size = size; time = time; owner = node.owner; group = node.group }

-- What is known of a file that gets a size: these attributes are its own but for size and time, and the size isn't too large.
pub record CanResize (R : Region) (l : Layout) (free : FreeLists) (row : Row) (x : AttrEntry) : Type 0 where
  pub stands : StandsRight R l free row
  pub own : MapsOwn free row.index
  pub file : row.kind ≡ File
  pub mode : x.mode ≡ row.numbers.mode
  pub most : x.size ≤ most_size

-- ---- how many blocks it takes

-- those of the log, from a tail on, and one for the page that is copied
abbrev pub blocks_from : ℕ → AttrEntry → Option ℕ → ℕ
blocks_from tail x None = needed (tail % 4096) (resizing 0 x None)
blocks_from tail x (Some b) = suc (needed (tail % 4096) (resizing 0 x (Some b)))

-- ---- what is made of the file

-- the block of a page that is copied, if one is
abbrev pub copied_to : Option ℕ → List ℕ
copied_to None = []
copied_to (Some b) = b ∷ []

-- The numbers are those of the entry, and there is nothing else new but of the log and the pages.
pub record HasSize (old : Row) (x : AttrEntry) (new : Row) : Type 0 where
  pub inode : new.inode ≡ old.inode
  pub kind : new.kind ≡ old.kind
  pub size : new.numbers.size ≡ x.size
  pub mode : new.numbers.mode ≡ x.mode
  pub owner : new.numbers.owner ≡ x.owner
  pub group : new.numbers.group ≡ x.group
  pub links : new.numbers.links ≡ old.numbers.links
  pub time : new.numbers.time ≡ x.time
  pub names : new.names ≡ old.names

-- each byte below the new size is the old one, or zero where there was none
abbrev pub SameBytes : Region → Region → Row → Row → ℕ → Type 0
SameBytes R S old new size = (y : ℕ) → y < size → byte_in S (block_at new.index (y / 4096)) y ≡ (if nat_lt y old.numbers.size then byte_in R (block_at old.index (y / 4096)) y else 0)

-- The log has the entries, the row what they say, and the file the bytes of before up to the new size. A CPU took the block of
-- the copied page, and then those of the log, each by itself. Behind the old end that page is zeros.
pub record Resizes (R S : Region) (l : Layout) (free : FreeLists) (cpu : ℕ) (old : Row) (x : AttrEntry) (new : Row) (after : FreeLists) : Type 0 where
  pub to : Option ℕ
  pub copied : is_some to ≡ is_some (end_block (block_at old.index) old.numbers.size x.size)
  pub between : List (List Run)
  pub taken : TakesSingly free.pools cpu (copied_to to) between
  pub numbers : HasSize old x new
  pub fresh : (held : Store) (h : Held) → ShowsRow R l held h old free → (b : ℕ) → to ≡ Some b → IsUnowned l held b
  pub follows : (held : Store) (h : Held) → ShowsRow R l held h old free → LogFollows R S l held h (resizing old.numbers.size x to) between cpu old new after
  pub bytes : (held : Store) (h : Held) → ShowsRow R l held h old free → SameBytes R S old new x.size
  pub zeros : (held : Store) (h : Held) → ShowsRow R l held h old free → ZerosFrom S old.numbers.size (resizing old.numbers.size x to)

-- ---- a page that is copied

-- The page in which a file of this size ends was copied into a block, with zeros behind the end, and nothing else was stored.
-- Then entries were written behind a log, and its tail moved.
pub record CopiesEnd (R S : Region) (from to size slot tail : ℕ) (entries : List Entry) (fresh : List ℕ) : Type 0 where
  pub mid : Region
  pub page : HoldsPage mid (byte_after 0 [] size (byte_in R (Some from))) to (size / 4096)
  pub wrote : IsMixed R (InBlocks (λ b. b ≡ to)) mid
  pub moved : (l : Layout) (held : Store) (i : ℕ) (h : Held) → CanExtend mid l held i h slot tail entries fresh → ShowsMoved mid l (with_log held i h entries fresh) S
  pub extends : IsMixed mid (ExtendWords slot tail entries fresh) S
