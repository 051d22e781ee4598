-- A superblock is accepted, or refused by the first fault that applies.
use Rattle.std.specs.Prelude.{◌≡◌, ◌≢◌, ◌⊎◌, ◌≤◌, ◌<◌, ◌+◌, ◌*◌, ◌/◌, ◌%◌, ℕ}
use Rattle.nv_region.specs.Region.{Region, size, word, put}
use Rattle.nv_super.specs.Layout.{most_blocks}
use Rattle.nv_super.specs.declared.superblock.Super.{Super}
use Rattle.nv_super.specs.declared.superblock.SuperFault.{SuperFault}
use Rattle.nv_super.specs.declared.superblock.SuperFault.TheVariants.{Length, Magic, Version, Cpus, Blocks, Tables, State}

-- the eight bytes NOVAPM01
abbrev pub magic : ℕ
magic = 0x31304d5041564f4e

-- when each fault applies
abbrev pub Applies : Region → SuperFault → Type 0
Applies R Length = (size R % 4096 ≢ 0) ⊎ ((size R / 4096 < 8) ⊎ (most_blocks < size R / 4096))
Applies R Magic = word R 0 ≢ magic
Applies R Version = (word R 8 ≢ 1) × (word R 8 ≢ 2)
Applies R Cpus = (word R 16 < 1) ⊎ (64 < word R 16)
Applies R Blocks = word R 24 ≢ size R / 4096
Applies R Tables = ((word R 32 < 1) ⊎ (64 < word R 32)) ⊎ (word R 24 ≤ 1 + word R 16 + word R 16 * word R 32)
Applies R State = 1 < word R 40

-- the place of a fault in the order in which they are told
abbrev pub rank : SuperFault → ℕ
rank Length = 1
rank Magic = 2
rank Version = 3
rank Cpus = 4
rank Blocks = 5
rank Tables = 6
rank State = 7

-- the superblock's numbers, where no fault applies
pub record IsSuper (R : Region) (s : Super) : Type 0 where
  pub sound : (fault : SuperFault) → Applies R fault → ⊥
  pub version : s.version ≡ word R 8
  pub cpus : s.cpus ≡ word R 16
  pub blocks : s.blocks ≡ word R 24
  pub table_blocks : s.table_blocks ≡ word R 32
  pub state : s.state ≡ word R 40

-- the region with these numbers in its superblock, whose magic stays
abbrev pub with_numbers : Region → Super → Region
with_numbers R s = put (put (put (put (put R 8 s.version) 16 s.cpus) 24 s.blocks) 32 s.table_blocks) 40 s.state

-- the first fault that applies
pub record IsRefused (R : Region) (fault : SuperFault) : Type 0 where
  pub applies : Applies R fault
  pub first : (other : SuperFault) → rank other < rank fault → Applies R other → ⊥
