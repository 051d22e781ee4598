-- What a map tells: which blocks of an outcome are used for what, and what a cell of some blocks tells of them.
use Rattle.std.specs.Prelude.{◌≡◌, ◌≢◌, ℕ, ◌+◌, ◌*◌, ◌<◌, ◌≤◌, max, List, length, get_or, Contains, Some}
use Rattle.std.specs.Int.{div_ceil}
use Rattle.nv_super.specs.declared.owners.Owner.{Owner}
use Rattle.nv_super.specs.Layout.{system_blocks}
use Rattle.nv_radix.specs.Pages.{block_at}
use Rattle.nv_scan.specs.declared.piece.Row.{Row}
use Rattle.nv_outcome.specs.Outcome.{Outcome}
use Rattle.nv_map.specs.declared.uses.BlockUse.{BlockUse}
use Rattle.nv_map.specs.declared.uses.BlockUse.TheVariants.{Free, System, Table, Data, Log, Doubled}
use Rattle.nv_map.specs.declared.cells.Cells.{Cells}
use Rattle.nv_map.specs.Rank.{rank}
use Rattle.nv_map.specs.Shares.{shares_of}

-- The inode of a row uses a block: for a page of its file, or for a page of its log.
pub data IsUsedBy (row : Row) (b : ℕ) : BlockUse → Type 0 where
  for_file : (page : ℕ) → block_at row.index page ≡ Some b → IsUsedBy row b Data
  for_log : Contains row.pages.items b → IsUsedBy row b Log

-- the inode of one of the rows uses it
abbrev pub IsUsedByOne : List Row → ℕ → BlockUse → Type 0
IsUsedByOne rows b kind = (row : Row) × Contains rows row × IsUsedBy row b kind

-- it stands in the chain of a CPU's table
abbrev pub IsUsedForTables : List (List ℕ) → ℕ → BlockUse → Type 0
IsUsedForTables chains b kind = ((chain : List ℕ) × Contains chains chain × Contains chain b) × (kind ≡ Table)

-- it stands among the doubled blocks
abbrev pub IsUsedTwice : List (ℕ × Owner) → ℕ → BlockUse → Type 0
IsUsedTwice doubled b kind = ((owner : Owner) × Contains doubled (b, owner)) × (kind ≡ Doubled)

-- What a block is used for by an outcome. A block for which nothing stands here is free.
pub data IsUsed (o : Outcome) (b : ℕ) : BlockUse → Type 0 where
  system : b < system_blocks o.sup → IsUsed o b System
  chained : {kind : BlockUse} → IsUsedForTables o.tables b kind → IsUsed o b kind
  owned : {kind : BlockUse} → IsUsedByOne o.rows b kind → IsUsed o b kind
  doubled : {kind : BlockUse} → IsUsedTwice o.doubled b kind → IsUsed o b kind

-- the block stands in this cell of so many blocks each
abbrev pub InCell : ℕ → ℕ → ℕ → Type 0
InCell each place b = (place * each ≤ b) × (b < place * each + each)

-- A cell tells this use: one of its blocks has it, unless it is free, and none has a later one.
pub record TellsCell (o : Outcome) (each place : ℕ) (kind : BlockUse) : Type 0 where
  pub had : kind ≢ Free → (b : ℕ) × (b < o.sup.blocks) × InCell each place b × IsUsed o b kind
  pub last : (b : ℕ) (other : BlockUse) → b < o.sup.blocks → InCell each place b → IsUsed o b other → rank other ≤ rank kind

-- The cells of an outcome, of so many blocks each, tell these uses: at most as many cells as asked for (one, if that is 0), of as few blocks as
-- can be.
pub record AreCells (o : Outcome) (asked blocks : ℕ) (uses : List BlockUse) : Type 0 where
  pub each : blocks ≡ div_ceil o.sup.blocks (max asked 1)
  pub count : length uses ≡ div_ceil o.sup.blocks blocks
  pub most : length uses ≤ max asked 1
  pub tells : (place : ℕ) → place < length uses → TellsCell o blocks place (get_or uses place Free)

-- These are the uses of an outcome's blocks, one by one: a block tells what a cell of it alone tells.
abbrev pub AreBlocks : Outcome → List BlockUse → Type 0
AreBlocks o uses = AreCells o o.sup.blocks 1 uses

-- They are a map of the outcome: its cells, and how many of their blocks have each use.
pub record IsMap (o : Outcome) (asked : ℕ) (cells : Cells) : Type 0 where
  pub tells : AreCells o asked cells.each cells.uses.items
  pub shares : (uses : List BlockUse) × AreBlocks o uses × (cells.shares.items ≡ shares_of cells.each uses)
