-- The value by which contracts see a pool.
use Rattle.std.specs.Prelude.{◌≡◌, ℕ, List, []}
use Rattle.nv_super.specs.declared.owners.Run.{Run}

-- The first block of the pool, the block behind its last, and the runs of the free blocks.
pub record PoolState : Type 0 where
  pub from : ℕ
  pub to : ℕ
  pub runs : List Run

-- what stands for a pool that isn't there
abbrev pub no_pool : PoolState
no_pool = record { from = 0; to = 0; runs = [] }

-- the pool lies where it lay
pub record SamePlace (old new : PoolState) : Type 0 where
  pub from : new.from ≡ old.from
  pub to : new.to ≡ old.to
