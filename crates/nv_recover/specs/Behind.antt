-- What a recovery stores, and up to where.
use Rattle.std.specs.Prelude.{ℕ, ◌*◌, ◌≤◌}
use Rattle.nv_region.specs.Region.{Region}
use Rattle.nv_region.specs.Stops.{Choices}
use Rattle.nv_super.specs.declared.superblock.Super.{Super}
use Rattle.nv_super.specs.Super.{IsSuper}
use Rattle.nv_journal.specs.Permitted.{slots_end}
use Rattle.nv_journal.specs.Undone.{UndoStores}

-- where the region has a superblock, the address lies behind all blocks in which slots can stand: in version 1 those in front of
-- the data blocks
abbrev pub BehindSlots : Region → ℕ → Type 0
BehindSlots R limit = (s : Super) → IsSuper R s → 4096 * slots_end s ≤ limit

-- What recovering the region may store: what rolling its journals back may, and nothing where it has no superblock.
abbrev pub RecoveryStores : Region → Choices
RecoveryStores R i x = (s : Super) × IsSuper R s × UndoStores s R i x
