-- The value by which contracts see `Allocators`.
use Rattle.std.specs.Prelude.{ℕ, List}
use Rattle.nv_super.specs.declared.superblock.Super.{Super}
use Rattle.nv_super.specs.declared.owners.Run.{Run}

-- The numbers that lay out the pools, for each pool the runs of its free blocks, and the room: how many calls of `give` it serves.
pub record FreeLists : Type 0 where
  pub sup : Super
  pub pools : List (List Run)
  pub room : ℕ
