-- What is read first of an image: the bytes in front of its data blocks, or all of them in version 2.
use Rattle.std.specs.Prelude.{◌≡◌, ◌*◌, ℕ, List, length, take}
use Rattle.nv_region.specs.Region.{region_of}
use Rattle.nv_super.specs.declared.superblock.Super.{Super}
use Rattle.nv_super.specs.Layout.{IsLayout, system_blocks}
use Rattle.nv_super.specs.Super.{IsRefused}
use Rattle.nv_metadata.specs.Blocks.{AreBytesAt}
use Rattle.nv_metadata.specs.Gathered.{SaysSuper}
use Rattle.nv_metadata.specs.Parts.{IsFront}
use Rattle.nv_metadata.specs.declared.gathering.Front.{Front}
use Rattle.nv_metadata.specs.declared.gathering.Front.TheVariants.{Accepted, Whole, Refused}

-- These are as many bytes as a region of version 2 with this superblock has, and the first block says the superblock.
pub record IsWhole (s : Super) (bytes : List ℕ) : Type 0 where
  pub version : s.version ≡ 2
  pub superblock : SaysSuper (take 4096 bytes) s
  pub count : length bytes ≡ 4096 * s.blocks

-- they are the image's, which is as long as the superblock says; or the superblock of the image has this fault first
abbrev pub IsFrontOf : List ℕ → Front → Type 0
IsFrontOf image (Accepted s front) = (length image ≡ 4096 * s.blocks) × AreBytesAt image 0 front.items
IsFrontOf image (Whole s bytes) = (length image ≡ 4096 * s.blocks) × AreBytesAt image 0 bytes.items
IsFrontOf image (Refused fault) = IsRefused (region_of image) fault

-- the superblock is accepted by them; they are all in front of the data blocks, and in version 2 all
abbrev pub IsSoundFront : Front → Type 0
IsSoundFront (Accepted s front) = IsLayout s × (s.version ≡ 1) × IsFront s front.items × (length front.items ≡ 4096 * system_blocks s)
IsSoundFront (Whole s bytes) = IsLayout s × IsWhole s bytes.items
IsSoundFront (Refused fault) = Unit {0}
