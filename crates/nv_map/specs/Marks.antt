-- How cells are marked, block by block. No public clause cites this module.
use Rattle.std.specs.Prelude.{◌≡◌, ◌⊎◌, ℕ, ◌+◌, ◌*◌, ◌<◌, ◌≤◌, max, nat_lt, cond, List, length, get_or, Contains}
use Rattle.std.specs.Int.{div_ceil}
use Rattle.nv_super.specs.declared.owners.Owner.{Owner}
use Rattle.nv_radix.specs.declared.extent.Extent.{Extent}
use Rattle.nv_map.specs.declared.uses.BlockUse.{BlockUse}
use Rattle.nv_map.specs.declared.uses.BlockUse.TheVariants.{Free, Table, Data, Log, Doubled}
use Rattle.nv_map.specs.declared.marks.Marks.{Marks}
use Rattle.nv_map.specs.Map.{InCell}
use Rattle.nv_map.specs.Rank.{rank}

-- no cell tells anything yet
pub record AreFree (n most : ℕ) (m : Marks) : Type 0 where
  pub blocks : m.blocks ≡ n
  pub each : m.each ≡ div_ceil n (max most 1)
  pub count : length m.uses.items ≡ div_ceil n m.each
  pub free : (place : ℕ) → get_or m.uses.items place Free ≡ Free

-- each block has a cell
pub record HasRoom (m : Marks) : Type 0 where
  pub some : 0 < m.each
  pub room : m.blocks ≤ length m.uses.items * m.each

-- what a cell tells after one of its blocks is used so
abbrev pub raised : BlockUse → BlockUse → BlockUse
raised told kind = cond (nat_lt (rank told) (rank kind)) kind told

-- the block is one of `count` from `start` on
abbrev pub IsIn : ℕ → ℕ → ℕ → Type 0
IsIn start count b = (start ≤ b) × (b < start + count)

-- these blocks have this use
abbrev pub AreUsed : ℕ → ℕ → BlockUse → ℕ → BlockUse → Type 0
AreUsed start count kind b other = IsIn start count b × (other ≡ kind)

-- one of some things says so of the block
abbrev pub SaysOne : {X : Type 0} → (X → ℕ → BlockUse → Type 0) → List X → ℕ → BlockUse → Type 0
SaysOne {X} says xs b other = (x : X) × Contains xs x × says x b other

-- what a block of a chain says
abbrev pub SaysBlock : ℕ → ℕ → BlockUse → Type 0
SaysBlock block b other = AreUsed block 1 Table b other

-- what a chain says
abbrev pub SaysChain : List ℕ → ℕ → BlockUse → Type 0
SaysChain chain b other = SaysOne SaysBlock chain b other

-- what a page of a log, an extent of a file and a claim of a doubled block say
abbrev pub SaysPage : ℕ → ℕ → BlockUse → Type 0
SaysPage page b other = AreUsed page 1 Log b other

-- what an extent of a file says
abbrev pub SaysExtent : Extent → ℕ → BlockUse → Type 0
SaysExtent extent b other = AreUsed extent.block extent.count Data b other

-- what a claim of a doubled block says
abbrev pub SaysClaim : ℕ × Owner → ℕ → BlockUse → Type 0
SaysClaim claim b other = AreUsed claim.0 1 Doubled b other

-- Each cell from `from` on and below `to` is told of one more use, and the others stay.
pub record AreRaised (from to : ℕ) (kind : BlockUse) (old new : Marks) : Type 0 where
  pub blocks : new.blocks ≡ old.blocks
  pub each : new.each ≡ old.each
  pub count : length new.uses.items ≡ length old.uses.items
  pub within : (place : ℕ) → place < length old.uses.items → from ≤ place → place < to → get_or new.uses.items place Free ≡ raised (get_or old.uses.items place Free) kind
  pub before : (place : ℕ) → place < from → get_or new.uses.items place Free ≡ get_or old.uses.items place Free
  pub behind : (place : ℕ) → to ≤ place → get_or new.uses.items place Free ≡ get_or old.uses.items place Free

-- A cell tells what it told, or a use that one of its blocks has, and no block of it has a later one.
pub record IsRaised (has : ℕ → BlockUse → Type 0) (blocks each place : ℕ) (old new : BlockUse) : Type 0 where
  pub had : (new ≡ old) ⊎ ((b : ℕ) × (b < blocks) × InCell each place b × has b new)
  pub later : rank old ≤ rank new
  pub last : (b : ℕ) (other : BlockUse) → b < blocks → InCell each place b → has b other → rank other ≤ rank new

-- The cells are told of all blocks with these uses.
pub record Raises (has : ℕ → BlockUse → Type 0) (old new : Marks) : Type 0 where
  pub blocks : new.blocks ≡ old.blocks
  pub each : new.each ≡ old.each
  pub count : length new.uses.items ≡ length old.uses.items
  pub cells : (place : ℕ) → place < length old.uses.items → IsRaised has old.blocks old.each place (get_or old.uses.items place Free) (get_or new.uses.items place Free)
