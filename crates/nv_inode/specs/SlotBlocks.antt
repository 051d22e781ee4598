-- The blocks in which slots stand.
use Rattle.std.specs.Prelude.{◌≡◌, ℕ, ◌+◌, ◌*◌, ◌/◌, ◌%◌, ◌<◌, ◌≤◌, List, [], ◌∷◌, ◌++◌, map}
use Rattle.std.specs.List.{range_with_len}
use Rattle.nv_super.specs.declared.superblock.Super.{Super}
use Rattle.nv_super.specs.Layout.{Layout}
use Rattle.nv_inode.specs.declared.blocks.SlotBlock.{SlotBlock}

-- a table block, by its place behind the journals
abbrev pub fixed_block : Super → ℕ → SlotBlock
fixed_block s t = record { start = 4096 * (1 + s.cpus + t); slots = 32; first = 32 * (t % s.table_blocks) * s.cpus + t / s.table_blocks }

-- block b of CPU c's chain, at place k of it
abbrev pub extra_block : Super → ℕ → ℕ → ℕ → SlotBlock
extra_block s c k b = record { start = b * 4096 + 128; slots = 31; first = (32 * s.table_blocks + 31 * k) * s.cpus + c }

-- blocks of CPU c's chain, from place k on
abbrev pub chain_blocks : Super → ℕ → ℕ → List ℕ → List SlotBlock
chain_blocks s c k [] = []
chain_blocks s c k (b ∷ blocks) = extra_block s c k b ∷ chain_blocks s c (k + 1) blocks

-- those of the chains from CPU c on
abbrev pub extra_blocks : Super → ℕ → List (List ℕ) → List SlotBlock
extra_blocks s c [] = []
extra_blocks s c (chain ∷ chains) = chain_blocks s c 0 chain ++ extra_blocks s (c + 1) chains

-- All blocks of slots: a ticket is the place of one of them.
abbrev pub slot_blocks : Layout → List SlotBlock
slot_blocks l = map (fixed_block l.sup) (range_with_len 0 (l.sup.cpus * l.sup.table_blocks)) ++ extra_blocks l.sup 0 l.chains

-- the inode is that of slot j of a block of slots
pub record IsIn (l : Layout) (x : SlotBlock) (j i : ℕ) : Type 0 where
  pub within : j < x.slots
  pub number : i ≡ x.first + j * l.sup.cpus

-- A block of 32 slots at most, which are whole and lie within the region, with small numbers.
pub record IsSmallBlock (s : Super) (x : SlotBlock) : Type 0 where
  pub few : x.slots ≤ 32
  pub whole : x.start % 128 ≡ 0
  pub inside : x.start + 128 * x.slots ≤ 4096 * s.blocks
  pub first : x.first < 1000000000
