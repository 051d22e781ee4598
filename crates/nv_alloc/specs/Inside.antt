-- What the crate's own functions say to each other.
use Rattle.std.specs.Prelude.{◌≡◌, ◌⊎◌, ℕ, ◌+◌, ◌-◌, ◌<◌, ◌≤◌, List, ◌++◌, length, map}
use Rattle.std.specs.List.{slice_index_or}
use Rattle.nv_blockset.specs.BlockSet.{has}
use Rattle.nv_super.specs.declared.owners.Run.{Run}
use Rattle.nv_super.specs.declared.superblock.Super.{Super}
use Rattle.nv_super.specs.Layout.{InPool, pool_start}
use Rattle.nv_super.specs.Runs.{InRun, Apart, AreRuns}
use Rattle.nv_alloc.specs.Taking.{HasBlock, blocks_in, taken, left, pool_at, Takes}
use Rattle.nv_alloc.specs.PoolValue.{PoolState, no_pool}

-- the runs of each pool
abbrev pub lists_of : List PoolState → List (List Run)
lists_of pools = map (λ (p : PoolState). p.runs) pools

-- the first block of each pool and the block behind its last
abbrev pub bounds_of : List PoolState → List (ℕ × ℕ)
bounds_of pools = map (λ (p : PoolState). (p.from, p.to)) pools

-- Each of the first n pools lies where the superblock has it.
abbrev pub AreBounds : Super → ℕ → List (ℕ × ℕ) → Type 0
AreBounds s n bounds = (c : ℕ) → c < n → slice_index_or bounds c (0, 0) ≡ (pool_start s c, pool_start s (c + 1))

-- how many blocks a pool has
abbrev pub size_at : List PoolState → ℕ → ℕ
size_at pools cpu = blocks_in (slice_index_or pools cpu no_pool).runs

-- Each pool below `here` has its blocks of before and those of the run's blocks that lie in it; the others are as before.
pub record JoinedUpTo (s : Super) (run : Run) (here : ℕ) (old new : List PoolState) : Type 0 where
  pub done : (c : ℕ) → c < here → c < length old → AreRuns (λ b. HasBlock (pool_at (lists_of old) c) b ⊎ (InPool s c b × InRun run b)) (pool_at (lists_of new) c)
  pub still : (c : ℕ) → here ≤ c → slice_index_or new c no_pool ≡ slice_index_or old c no_pool
  pub bounds : bounds_of new ≡ bounds_of old

-- the block is within the bounds and not in the set
abbrev pub IsClear : List ℕ → ℕ → ℕ → ℕ → Type 0
IsClear words from to b = (from ≤ b) × (b < to) × (has words b ≡ 0)

-- Some of what is to be taken was taken: what remains to take makes up the rest.
pub record TakesSome (need : ℕ) (runs had : List Run) (rest : ℕ) (runs' has' : List Run) : Type 0 where
  pub out : has' ++ taken rest runs' ≡ had ++ taken need runs
  pub stays : left rest runs' ≡ left need runs
  pub still : rest - blocks_in runs' ≡ need - blocks_in runs

-- One pool was asked for n blocks: what came stands behind what there was.
pub record TakesFrom (need : ℕ) (old : PoolState) (had : List Run) (rest : ℕ) (new : PoolState) (has' : List Run) : Type 0 where
  pub apart : Apart old.runs
  pub out : has' ≡ had ++ taken need old.runs
  pub stays : new.runs ≡ left need old.runs
  pub still : rest ≡ need - blocks_in old.runs

-- The runs that are taken stand behind those that were there.
abbrev pub TakesOnto : List (List Run) → ℕ → ℕ → List Run → List Run → List (List Run) → Type 0
TakesOnto pools cpu n had has' after = (runs : List Run) × Takes pools cpu n runs after × (has' ≡ had ++ runs)

-- The first n pools are of the clear blocks between their bounds.
pub record ArePools (words : List ℕ) (s : Super) (n : ℕ) (pools : List (List Run)) : Type 0 where
  pub count : length pools ≡ n
  pub each : (c : ℕ) → c < n → AreRuns (λ b. InPool s c b × (has words b ≡ 0)) (pool_at pools c)
