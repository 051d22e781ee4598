-- What `Allocators` keeps.
use Rattle.std.specs.Prelude.{ℕ, List}
use Rattle.nv_super.specs.declared.superblock.Super.{Super}
use Rattle.nv_alloc.specs.PoolValue.{PoolState}
use Rattle.nv_alloc.specs.FreeValue.{FreeLists}
use Rattle.nv_alloc.specs.FreeLists.{IsSound}
use Rattle.nv_alloc.specs.Inside.{lists_of, bounds_of, AreBounds}

-- what is shown of the fields
abbrev pub view_of : Super → List PoolState → ℕ → FreeLists
view_of s pools room = record { sup = s; pools = lists_of pools; room = room }

-- The lists are sound, and each pool lies where the superblock has it.
pub record IsWhole (s : Super) (pools : List PoolState) (room : ℕ) : Type 0 where
  pub sound : IsSound (view_of s pools room)
  pub bounds : AreBounds s s.cpus (bounds_of pools)
