-- What walks along logs leave in the memory.
use Rattle.std.specs.Prelude.{◌≡◌, ◌≤◌, ◌<◌, ◌⊎◌, ℕ, List}
use Rattle.std.specs.List.{Contains}
use Rattle.nv_region.specs.Region.{Region}
use Rattle.nv_super.specs.declared.superblock.Super.{Super}
use Rattle.nv_inode.specs.Slot.{nth_slot}
use Rattle.nv_metadata.specs.Linked.{IsLinked, IsLog, IsLogOf, wanted}
use Rattle.nv_metadata.specs.Memory.{MetadataState, Shows, held}
use Rattle.nv_metadata.specs.declared.logs.LogEnds.{LogEnds}

-- Of all linked blocks of a log as much is held as is wanted. The memory shows the region, and no less of any block is held than before,
-- nor more of one that isn't linked.
pub record IsFetched (s : Super) (R : Region) (head tail : ℕ) (old new : MetadataState) : Type 0 where
  pub shows : Shows R new
  pub all : (b : ℕ) → IsLinked R s head tail b → wanted tail b ≤ held new b
  pub keeps : (b : ℕ) → held old b ≤ held new b
  pub only : (b : ℕ) → (held new b ≡ held old b) ⊎ IsLinked R s head tail b

-- the block is linked in one of these logs
abbrev pub IsLinkedIn : Super → Region → List LogEnds → ℕ → Type 0
IsLinkedIn s R logs b = (log : LogEnds) × Contains logs log × IsLinked R s log.head log.tail b

-- the same of these logs
pub record AreFetched (s : Super) (R : Region) (logs : List LogEnds) (old new : MetadataState) : Type 0 where
  pub shows : Shows R new
  pub all : (log : LogEnds) (b : ℕ) → Contains logs log → IsLinked R s log.head log.tail b → wanted log.tail b ≤ held new b
  pub only : (b : ℕ) → (held new b ≡ held old b) ⊎ IsLinkedIn s R logs b

-- these are the heads and tails of the logs of a region's inodes in use, where both are right
pub record AreLogs (U : Region) (s : Super) (logs : List LogEnds) : Type 0 where
  pub all : (head tail : ℕ) → IsLog U s head tail → Contains logs (record { head = head; tail = tail })
  pub only : (log : LogEnds) → Contains logs log → IsLog U s log.head log.tail

-- the same of the inodes whose slots have places from one on and before another
pub record AreLogsAmong (U : Region) (s : Super) (from to : ℕ) (logs : List LogEnds) : Type 0 where
  pub all : (i a head tail : ℕ) → nth_slot s from ≤ a → a < nth_slot s to → IsLogOf U s i a head tail → Contains logs (record { head = head; tail = tail })
  pub only : (log : LogEnds) → Contains logs log → IsLog U s log.head log.tail
