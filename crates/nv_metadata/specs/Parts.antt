-- What is fetched of some logs, into a memory of its own.
use Rattle.std.specs.Prelude.{◌≡◌, ◌≤◌, ◌<◌, ◌⊎◌, ◌*◌, ◌%◌, ℕ, List, Result, IfOk, IfErr, false, length, take}
use Rattle.std.specs.List.{Contains}
use Rattle.nv_region.specs.Region.{Region, region_of}
use Rattle.nv_super.specs.declared.superblock.Super.{Super}
use Rattle.nv_super.specs.Layout.{system_blocks}
use Rattle.nv_metadata.specs.Blocks.{AreBytesAt}
use Rattle.nv_metadata.specs.Gathered.{SaysSuper}
use Rattle.nv_metadata.specs.Linked.{IsLinked, wanted}
use Rattle.nv_metadata.specs.Memory.{MetadataState, CanHold, Shows, held}
use Rattle.nv_metadata.specs.Walk.{IsLinkedIn}
use Rattle.nv_metadata.specs.declared.errors.GatherError.{GatherError}
use Rattle.nv_metadata.specs.declared.errors.GatherError.TheVariants.{Memory}
use Rattle.nv_metadata.specs.declared.logs.LogEnds.{LogEnds}

-- These bytes are the first block, which says the superblock, and maybe more of those in front of the data blocks.
pub record IsFront (s : Super) (front : List ℕ) : Type 0 where
  pub begins : 4096 ≤ length front
  pub whole : length front % 8 ≡ 0
  pub ends : length front ≤ 4096 * system_blocks s
  pub superblock : SaysSuper (take 4096 front) s

-- The memory shows the region, and holds as much as is wanted of all linked blocks of these logs, and nothing of other blocks.
pub record HasFetched (s : Super) (R : Region) (logs : List LogEnds) (m : MetadataState) : Type 0 where
  pub shows : Shows R m
  pub all : (b : ℕ) (log : LogEnds) → Contains logs log → IsLinked R s log.head log.tail b → wanted log.tail b ≤ held m b
  pub only : (b : ℕ) → (held m b ≡ 0) ⊎ IsLinkedIn s R logs b

-- What came of fetching these logs of an image into a memory with this front: it has them, where the image's bytes are known, and
-- then memory alone can be wanting.
pub record IsPart (IsKnown : List ℕ → Type 0) (s : Super) (front : List ℕ) (logs : List LogEnds) (result : Result MetadataState GatherError) : Type 0 where
  pub can : IfOk result (CanHold s)
  pub opens : IfOk result (λ m. (m.memory.front ≡ length front) × (m.memory.burnt ≡ false))
  pub fetched : (image : List ℕ) → IsKnown image → length image ≡ 4096 * s.blocks → AreBytesAt image 0 front → IfOk result (HasFetched s (region_of image) logs)
  pub known : (image : List ℕ) → IsKnown image → length image ≡ 4096 * s.blocks → IfErr result (λ e. e ≡ Memory)

-- What another memory held more of the blocks from one to another is held now too, and nothing else has changed: a region that both
-- showed is shown.
pub record IsJoined (from to : ℕ) (old other new : MetadataState) : Type 0 where
  pub shows : (R : Region) → Shows R old → Shows R other → Shows R new
  pub keeps : (b : ℕ) → held old b ≤ held new b
  pub more : (b : ℕ) → from ≤ b → b < to → held other b ≤ held new b
  pub only : (b : ℕ) → (held new b ≡ held old b) ⊎ (held new b ≡ held other b)
