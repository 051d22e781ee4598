-- Blocks of chains none of whose slots is in use.
use Rattle.std.specs.Prelude.{◌≡◌, ℕ, ◌+◌, ◌*◌, ◌%◌, ◌<◌, List, IsTrue}
use Rattle.nv_blockset.specs.BlockSet.{is_set}
use Rattle.nv_region.specs.Region.{Region, word}
use Rattle.nv_inode.specs.declared.blocks.SlotBlock.{SlotBlock}

-- the valid word of each slot of a block of slots is 0
abbrev pub HasNoWord : Region → SlotBlock → Type 0
HasNoWord R x = (j : ℕ) → j < x.slots → word R (x.start + 128 * j) ≡ 0

-- A block of slots is one of a chain, and none of its slots is in use.
pub record IsUnused (R : Region) (x : SlotBlock) : Type 0 where
  pub few : x.slots ≡ 31
  pub start : x.start % 4096 ≡ 128
  pub none : HasNoWord R x

-- Each block of a set is one that has no slot in use, as a block of a chain.
abbrev pub KnowsUnused : Region → List ℕ → Type 0
KnowsUnused R words = (b : ℕ) → IsTrue (is_set words b) → (j : ℕ) → j < 31 → word R (b * 4096 + 128 + 128 * j) ≡ 0
