-- A region that has the metadata of another one, and else zeros.
use Rattle.std.specs.Prelude.{◌≡◌, ◌≤◌, ◌+◌, ◌*◌, ◌/◌, ◌%◌, ℕ, List, length, drop}
use Rattle.byteorder.specs.Endian.{little_number}
use Rattle.nv_region.specs.Region.{Region, HasBlocks, word}
use Rattle.nv_super.specs.declared.superblock.Super.{Super}
use Rattle.nv_super.specs.Super.{IsSuper, IsRefused}
use Rattle.nv_inode.specs.Permitted.{slots_end}
use Rattle.nv_journal.specs.Undo.{undone}
use Rattle.nv_journal.specs.Undone.{SameBefore}
use Rattle.nv_logpage.specs.ToTail.{SameToTail}
use Rattle.nv_metadata.specs.Linked.{IsLinked, IsLog, IsLogBlock}
use Rattle.nv_metadata.specs.Memory.{IsReady}
use Rattle.nv_metadata.specs.declared.gathering.Gathered.{Gathered as GatheredValue}
use Rattle.nv_metadata.specs.declared.gathering.Gathered.TheVariants.{Metadata, Refused}

-- S is as long as R, and has R's words where slots can stand: in front of the data blocks in version 1, and everywhere in version 2.
-- Behind that it has those of the blocks of logs up to their tails, and zeros in all other blocks.
pub record IsGathered (s : Super) (R S : Region) : Type 0 where
  pub as_long : length S.words ≡ length R.words
  pub rest_as_long : length S.rest ≡ length R.rest
  pub front : SameBefore (4096 * slots_end s) R S
  pub logs : (head tail b : ℕ) → IsLog (undone s R) s head tail → IsLinked R s head tail b → SameToTail tail R S b
  pub zeros : (at : ℕ) → at % 8 ≡ 0 → 4096 * slots_end s ≤ at → (IsLogBlock s R (at / 4096) → ⊥) → word S at ≡ 0

-- The metadata of a region with an accepted superblock, or the first fault of its superblock.
abbrev pub AreGathered : Region → GatheredValue → Type 0
AreGathered R (Metadata sup memory) = IsSuper R sup × IsGathered sup R memory.memory.region
AreGathered R (Refused fault) = IsRefused R fault

-- the memory's superblock is accepted, and it takes stores where slots can stand
abbrev pub IsOpen : GatheredValue → Type 0
IsOpen (Metadata sup memory) = IsReady sup memory
IsOpen (Refused fault) = Unit {0}

-- each region of as many blocks that begins with these bytes has this superblock
abbrev pub SaysSuper : List ℕ → Super → Type 0
SaysSuper first s = (R : Region) → HasBlocks R s.blocks → ((at : ℕ) → at % 8 ≡ 0 → at + 8 ≤ length first → word R at ≡ little_number 8 (drop at first)) → IsSuper R s
