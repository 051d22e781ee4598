-- What `Allocators` shows, and what its calls do to it.
use Rattle.std.specs.Prelude.{◌≡◌, ◌⊎◌, ℕ, ◌<◌, ◌≤◌, List, [], ◌∷◌, ◌++◌, length, map, Vec}
use Rattle.std.specs.declared.alloc.Global.{Global}
use Rattle.nv_blockset.specs.BlockSet.{has}
use Rattle.nv_super.specs.declared.superblock.Super.{Super}
use Rattle.nv_super.specs.declared.owners.Run.{Run}
use Rattle.nv_super.specs.Layout.{system_blocks, IsLayout, InPool}
use Rattle.nv_super.specs.Runs.{InRun, Apart, AreRuns}
use Rattle.nv_alloc.specs.declared.allocators.AllocRefusal.{AllocRefusal}
use Rattle.nv_alloc.specs.declared.allocators.AllocRefusal.TheVariants.{NoSpace, Memory}
use Rattle.nv_alloc.specs.FreeValue.{FreeLists}
use Rattle.nv_alloc.specs.Taking.{HasBlock, Disjoint, blocks_in, all_blocks, pool_at, Takes, TakesSingly, LeaveSingly}

-- the block is free in the pool of this CPU
abbrev pub IsFreeIn : FreeLists → ℕ → ℕ → Type 0
IsFreeIn a cpu b = HasBlock (pool_at a.pools cpu) b

-- the lists of runs in a list of vectors
abbrev pub runs_in : List (Vec Run Global) → List (List Run)
runs_in lists = map (λ (v : Vec Run Global). v.items) lists

-- Each pool has one list, of blocks of its own: rising runs, none touching another.
pub record IsSound (a : FreeLists) : Type 0 where
  pub layout : IsLayout a.sup
  pub count : length a.pools ≡ a.sup.cpus
  pub apart : (cpu : ℕ) → Apart (pool_at a.pools cpu)
  pub within : (cpu b : ℕ) → IsFreeIn a cpu b → InPool a.sup cpu b

-- The free blocks of each pool are those of its blocks that aren't in the set.
pub record AreOutside (words : List ℕ) (s : Super) (a : FreeLists) : Type 0 where
  pub sup : a.sup ≡ s
  pub count : length a.pools ≡ s.cpus
  pub each : (cpu : ℕ) → cpu < s.cpus → AreRuns (λ b. InPool s cpu b × (has words b ≡ 0)) (pool_at a.pools cpu)

-- The lists are as before, and there is no less room.
pub record SameLists (old new : FreeLists) : Type 0 where
  pub sup : new.sup ≡ old.sup
  pub pools : new.pools ≡ old.pools
  pub room : old.room ≤ new.room

-- n blocks were taken by the rule, and there is no less room.
pub record Took (old : FreeLists) (cpu n : ℕ) (runs : List Run) (new : FreeLists) : Type 0 where
  pub sup : new.sup ≡ old.sup
  pub takes : Takes old.pools cpu n runs new.pools
  pub room : old.room ≤ new.room

-- The runs have n blocks, which were free, no block is in two runs, and just these blocks aren't free any more.
pub record Leave (old : FreeLists) (n : ℕ) (runs : List Run) (new : FreeLists) : Type 0 where
  pub blocks : blocks_in runs ≡ n
  pub free : (b : ℕ) → HasBlock runs b → (cpu : ℕ) × IsFreeIn old cpu b
  pub disjoint : Disjoint runs
  pub gone : (cpu b : ℕ) → IsFreeIn new cpu b → HasBlock runs b → ⊥
  pub stays : (cpu b : ℕ) → IsFreeIn new cpu b → IsFreeIn old cpu b
  pub rest : (cpu b : ℕ) → IsFreeIn old cpu b → HasBlock runs b ⊎ IsFreeIn new cpu b

-- Why nothing is taken: all pools together have fewer blocks, or, where they have enough, there is no memory.
abbrev pub Refuses : AllocRefusal → ℕ → List (List Run) → Type 0
Refuses NoSpace n pools = all_blocks pools < n
Refuses Memory n pools = n ≤ all_blocks pools

-- The run is of data blocks, none of them free.
pub record CanJoin (a : FreeLists) (run : Run) : Type 0 where
  pub «data» : (b : ℕ) → InRun run b → (system_blocks a.sup ≤ b) × (b < a.sup.blocks)
  pub used : (cpu b : ℕ) → InRun run b → IsFreeIn a cpu b → ⊥

-- Each pool has its free blocks of before and those of the run's blocks that lie in it.
pub record Joins (old : FreeLists) (run : Run) (new : FreeLists) : Type 0 where
  pub sup : new.sup ≡ old.sup
  pub count : length new.pools ≡ length old.pools
  pub each : (cpu : ℕ) → cpu < length old.pools → AreRuns (λ b. IsFreeIn old cpu b ⊎ (InPool old.sup cpu b × InRun run b)) (pool_at new.pools cpu)

-- The runs were joined, one after another.
abbrev pub JoinAll : FreeLists → List Run → FreeLists → Type 0
JoinAll old [] new = old ≡ new
JoinAll old (run ∷ runs) new = (next : FreeLists) × Joins old run next × JoinAll next runs new

-- The lists are those of before a take again once all that it gave is given back.
abbrev pub TakeThenGiveRestores : Type 0
TakeThenGiveRestores = (old mid back : FreeLists) (cpu n : ℕ) (runs : List Run) → IsSound old → cpu < old.sup.cpus → Took old cpu n runs mid → JoinAll mid runs back
    → (back.sup ≡ old.sup) × (back.pools ≡ old.pools)

-- Each run that a take gave can be given back, also after those before it.
abbrev pub TakenCanJoin : Type 0
TakenCanJoin = (old mid now : FreeLists) (cpu n : ℕ) (before : List Run) (run : Run) (behind : List Run) → IsSound old → cpu < old.sup.cpus → Took old cpu n (before ++ run ∷ behind) mid
    → JoinAll mid before now → CanJoin now run

-- The free blocks of each pool determine the lists.
abbrev pub SetsDetermineLists : Type 0
SetsDetermineLists = (a b : FreeLists) → IsSound a → IsSound b → a.sup ≡ b.sup
    → ((cpu block : ℕ) → (IsFreeIn a cpu block → IsFreeIn b cpu block) × (IsFreeIn b cpu block → IsFreeIn a cpu block)) → a.pools ≡ b.pools

-- From sound lists, blocks that are taken one by one were free, no two are the same, and just they aren't free any more.
abbrev pub SingleTakesLeave : Type 0
SingleTakesLeave = (a : FreeLists) (cpu : ℕ) (blocks : List ℕ) (after : List (List Run)) → IsSound a → cpu < a.sup.cpus → TakesSingly a.pools cpu blocks after → LeaveSingly a.pools blocks after
