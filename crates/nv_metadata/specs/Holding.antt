-- What it is to hold more of an image's blocks.
use Rattle.std.specs.Prelude.{◌≡◌, ◌≢◌, ◌≤◌, ◌<◌, ◌/◌, ◌%◌, ◌||◌, ℕ, List, IsTrue, drop, length, nat_le}
use Rattle.byteorder.specs.Endian.{little_number}
use Rattle.nv_region.specs.Region.{Region, word}
use Rattle.nv_super.specs.declared.superblock.Super.{Super}
use Rattle.nv_super.specs.Layout.{HasAreas, system_blocks}
use Rattle.nv_inode.specs.Slot.{is_right_log}
use Rattle.nv_metadata.specs.Memory.{CanHold, MetadataState, held}

-- The block begins with these bytes, whole words of them, and has zeros behind them. Every other block is as before.
pub record BeginsWith (old : Region) (block : ℕ) (bytes : List ℕ) (new : Region) : Type 0 where
  pub piece : (at : ℕ) → at % 8 ≡ 0 → at / 4096 ≡ block → at % 4096 < length bytes → word new at ≡ little_number 8 (drop (at % 4096) bytes)
  pub zeros : (at : ℕ) → at % 8 ≡ 0 → at / 4096 ≡ block → length bytes ≤ at % 4096 → word new at ≡ 0
  pub others : (at : ℕ) → at % 8 ≡ 0 → at / 4096 ≢ block → word new at ≡ word old at

-- The region stays as long, and the same stores are taken.
pub record SameShape (old new : MetadataState) : Type 0 where
  pub as_long : length new.memory.region.words ≡ length old.memory.region.words
  pub rest : new.memory.region.rest ≡ old.memory.region.rest
  pub «open» : (new.memory.front ≡ old.memory.front) × (new.memory.burnt ≡ old.memory.burnt)

-- A store is refused behind the front, and each one from then on. What is held of each block stays.
pub record StoresInFront (old : MetadataState) (at : ℕ) (new : MetadataState) : Type 0 where
  pub burns : new.memory.burnt ≡ (old.memory.burnt || nat_le old.memory.front at)
  pub front : new.memory.front ≡ old.memory.front
  pub pieces : new.counts ≡ old.counts

-- The memory can hold so many bytes of a data block, whole words of them.
pub record CanFetch (s : Super) (m : MetadataState) (block count : ℕ) : Type 0 where
  pub areas : HasAreas s
  pub can : CanHold s m
  pub behind : system_blocks s ≤ block
  pub inside : block < s.blocks
  pub whole : count % 8 ≡ 0
  pub few : count ≤ 4096

-- A log with this head and tail can be followed: both are right, and the memory can hold data blocks.
pub record CanFollow (s : Super) (m : MetadataState) (head tail : ℕ) : Type 0 where
  pub areas : HasAreas s
  pub can : CanHold s m
  pub right : IsTrue (is_right_log s head tail)

-- So many bytes of the block are held, or more. No less is held of any block, and of each other one as much as before.
pub record HoldsMore (old : MetadataState) (block count : ℕ) (new : MetadataState) : Type 0 where
  pub here : count ≤ held new block
  pub keeps : (b : ℕ) → held old b ≤ held new b
  pub only : (b : ℕ) → b ≢ block → held new b ≡ held old b
