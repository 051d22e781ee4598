-- Blocks of a file's pages that are given back.
use Rattle.std.specs.Prelude.{◌≡◌, ◌↔◌, ℕ, ◌<◌, ◌≤◌, List, Option, Some, None}
use Rattle.nv_super.specs.declared.owners.Run.{Run}
use Rattle.nv_super.specs.Layout.{system_blocks}
use Rattle.nv_alloc.specs.FreeValue.{FreeLists}
use Rattle.nv_alloc.specs.FreeLists.{IsFreeIn, JoinAll, Joins}
use Rattle.nv_alloc.specs.Taking.{HasBlock, block_run}
use Rattle.nv_radix.specs.Pages.{Pages, block_at}

-- The blocks of an index are data blocks, none of them free, and no two pages have the same.
pub record MapsOwn (free : FreeLists) (m : Pages) : Type 0 where
  pub in_data : (p b : ℕ) → block_at m p ≡ Some b → (system_blocks free.sup ≤ b) × (b < free.sup.blocks)
  pub used : (p b cpu : ℕ) → block_at m p ≡ Some b → IsFreeIn free cpu b → ⊥
  pub once : (p q b : ℕ) → block_at m p ≡ Some b → block_at m q ≡ Some b → p ≡ q

-- the block is that of a page from one up to another
abbrev pub IsOfPages : Pages → ℕ → ℕ → ℕ → Type 0
IsOfPages m first end b = (p : ℕ) × (first ≤ p) × (p < end) × (block_at m p ≡ Some b)

-- a block was given back, if there is one
abbrev pub GivesBlock : FreeLists → Option ℕ → FreeLists → Type 0
GivesBlock old None new = old ≡ new
GivesBlock old (Some b) new = Joins old (block_run b) new

-- The blocks of the pages from one up to another were given back.
pub record GivesPages (old : FreeLists) (m : Pages) (first end : ℕ) (new : FreeLists) : Type 0 where
  pub runs : List Run
  pub joined : JoinAll old runs new
  pub blocks : (b : ℕ) → HasBlock runs b ↔ IsOfPages m first end b
