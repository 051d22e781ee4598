-- The rule by which blocks are taken from pools.
use Rattle.std.specs.Prelude.{◌≡◌, ◌≢◌, ◌⊎◌, ◌↔◌, ℕ, ◌+◌, ◌-◌, ◌<◌, ◌≤◌, ◌==◌, nat_le, if◌then◌else◌, List, [], ◌∷◌, ◌++◌, length, get_or, sum_by, slice_index_or, slice_set}
use Rattle.std.specs.List.{Contains}
use Rattle.nv_super.specs.declared.owners.Run.{Run}
use Rattle.nv_super.specs.Runs.{InRun}

-- the block is in one of the runs
abbrev pub HasBlock : List Run → ℕ → Type 0
HasBlock runs b = (x : Run) × Contains runs x × (x.start ≤ b) × (b < x.start + x.count)

-- no block is in two of the runs
abbrev pub Disjoint : List Run → Type 0
Disjoint [] = Unit {0}
Disjoint (r ∷ rs) = ((b : ℕ) → InRun r b → HasBlock rs b → ⊥) × Disjoint rs

-- how many blocks the runs have
abbrev pub blocks_in : List Run → ℕ
blocks_in runs = sum_by (λ (r : Run). r.count) runs

-- how many blocks all pools have
abbrev pub all_blocks : List (List Run) → ℕ
all_blocks pools = sum_by blocks_in pools

-- the first n blocks of the runs
abbrev pub taken : ℕ → List Run → List Run
taken n [] = []
taken n (r ∷ rs) = if n == 0 then [] else if nat_le r.count n then r ∷ taken (n - r.count) rs else record { start = r.start; count = n } ∷ []

-- what is left of the runs without their first n blocks
abbrev pub left : ℕ → List Run → List Run
left n [] = []
left n (r ∷ rs) = if n == 0 then r ∷ rs else if nat_le r.count n then left (n - r.count) rs else record { start = r.start + n; count = r.count - n } ∷ rs

-- the runs of the pool of a CPU
abbrev pub pool_at : List (List Run) → ℕ → List Run
pool_at pools cpu = slice_index_or pools cpu []

-- the pool with the most free blocks, the lowest of these
pub record IsFullest (pools : List (List Run)) (cpu : ℕ) : Type 0 where
  pub within : cpu < length pools
  pub most : (d : ℕ) → d < length pools → blocks_in (pool_at pools d) ≤ blocks_in (pool_at pools cpu)
  pub lowest : (d : ℕ) → d < cpu → blocks_in (pool_at pools d) < blocks_in (pool_at pools cpu)

-- Taking n blocks from the pool of a CPU on gives these runs, and leaves these pools: the pool's lowest blocks where it has enough.
-- Else all that it has, and then as much as is still needed from the pool that has the most blocks by then.
pub data Takes : List (List Run) → ℕ → ℕ → List Run → List (List Run) → Type 0 where
  ends : {pools : List (List Run)} {cpu n : ℕ} → n ≤ blocks_in (pool_at pools cpu) → Takes pools cpu n (taken n (pool_at pools cpu)) (slice_set pools cpu (left n (pool_at pools cpu)))
  goes_on : {pools : List (List Run)} {cpu n : ℕ} (d : ℕ) (more : List Run) (after : List (List Run)) → blocks_in (pool_at pools cpu) < n → IsFullest (slice_set pools cpu []) d
      → Takes (slice_set pools cpu []) d (n - blocks_in (pool_at pools cpu)) more after → Takes pools cpu n (pool_at pools cpu ++ more) after

-- There is something that a take gives, where all pools together have as many blocks.
abbrev pub TakeExists : Type 0
TakeExists = (pools : List (List Run)) (cpu n : ℕ) → n ≤ all_blocks pools → (runs : List Run) × (after : List (List Run)) × Takes pools cpu n runs after

-- What a take gives and leaves is decided by the pools, the CPU and the number of blocks.
abbrev pub TakeIsOne : Type 0
TakeIsOne = (pools : List (List Run)) (cpu n : ℕ) (runs others : List Run) (after rest : List (List Run)) → Takes pools cpu n runs after → Takes pools cpu n others rest
    → (runs ≡ others) × (after ≡ rest)

-- ---- one by one

-- one block as a run
abbrev pub block_run : ℕ → Run
block_run b = record { start = b; count = 1 }

-- The blocks are taken one by one: each is what a take of one block from the pool of a CPU on gives, and the pools are then
-- what the last of them leaves.
abbrev pub TakesSingly : List (List Run) → ℕ → List ℕ → List (List Run) → Type 0
TakesSingly pools cpu [] after = pools ≡ after
TakesSingly pools cpu (b ∷ blocks) after = (next : List (List Run)) × Takes pools cpu 1 (block_run b ∷ []) next × TakesSingly next cpu blocks after

-- Which blocks are taken one by one, and what is left, is decided by the pools, the CPU and their number.
abbrev pub SingleTakesAreOne : Type 0
SingleTakesAreOne = (pools : List (List Run)) (cpu : ℕ) (blocks others : List ℕ) (after rest : List (List Run)) → length blocks ≡ length others → TakesSingly pools cpu blocks after
    → TakesSingly pools cpu others rest → (blocks ≡ others) × (after ≡ rest)

-- Blocks are taken one by one just where the first of them are, and then the others from what these leave.
abbrev pub SingleTakesSplit : Type 0
SingleTakesSplit = (pools : List (List Run)) (cpu : ℕ) (blocks others : List ℕ) (after : List (List Run))
    → TakesSingly pools cpu (blocks ++ others) after ↔ ((mid : List (List Run)) × TakesSingly pools cpu blocks mid × TakesSingly mid cpu others after)

-- The blocks were free in these pools, no two are the same, and just they aren't free any more.
pub record LeaveSingly (pools : List (List Run)) (blocks : List ℕ) (after : List (List Run)) : Type 0 where
  pub free : (b : ℕ) → Contains blocks b → (cpu : ℕ) × HasBlock (pool_at pools cpu) b
  pub differ : (i j : ℕ) → i < j → j < length blocks → get_or blocks i 0 ≢ get_or blocks j 0
  pub gone : (cpu b : ℕ) → HasBlock (pool_at after cpu) b → Contains blocks b → ⊥
  pub stays : (cpu b : ℕ) → HasBlock (pool_at after cpu) b → HasBlock (pool_at pools cpu) b
  pub rest : (cpu b : ℕ) → HasBlock (pool_at pools cpu) b → Contains blocks b ⊎ HasBlock (pool_at after cpu) b
