-- Places of a log at which entries are read or written.
use Rattle.std.specs.Prelude.{◌≡◌, ℕ, ◌+◌, ◌*◌, ◌/◌, ◌%◌, ◌≤◌}
use Rattle.nv_region.specs.Region.{HasBlocks, Region, size}
use Rattle.nv_super.specs.declared.superblock.Super.{Super}
use Rattle.nv_super.specs.Layout.{HasAreas}
use Rattle.nv_logpage.specs.Steps.{IsPlace, end_of_entries}

-- The region is that of the superblock, and each of its blocks can be told to be read or not.
pub record CanLook (R : Region) (s : Super) (bound : ℕ) : Type 0 where
  pub areas : HasAreas s
  pub blocks : HasBlocks R s.blocks
  pub all_blocks : bound ≡ s.blocks

-- a word of a page that lies within the region, at or in front of the page's link
pub record IsInPage (R : Region) (place : ℕ) : Type 0 where
  pub whole : place % 8 ≡ 0
  pub offset : place % 4096 ≤ 4064
  pub inside : place / 4096 * 4096 + 4096 ≤ size R

-- a place of a log that ends at this tail, and the address that no entry from it on may pass
pub record IsPlaceUpTo (s : Super) (tail at end : ℕ) : Type 0 where
  pub place : IsPlace s at
  pub end_is : end ≡ end_of_entries tail at
