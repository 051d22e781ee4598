-- Blocks that are taken one by one, from the pool of a CPU on.
use Rattle.std.specs.Prelude.{◌≡◌, ℕ, List, [], ◌∷◌, ◌++◌, length}
use Rattle.nv_alloc.specs.FreeValue.{FreeLists}
use Rattle.nv_alloc.specs.FreeLists.{IsSound, Leave, Took}
use Rattle.nv_alloc.specs.Taking.{block_run}

-- The free lists are as before; their room may have changed.
pub record SamePools (old new : FreeLists) : Type 0 where
  pub sup : new.sup ≡ old.sup
  pub pools : new.pools ≡ old.pools

-- One block was taken by the rule.
pub record TakesOne (old : FreeLists) (cpu block : ℕ) (new : FreeLists) : Type 0 where
  pub took : Took old cpu 1 (block_run block ∷ []) new
  pub leave : Leave old 1 (block_run block ∷ []) new
  pub before : IsSound old
  pub after : IsSound new

-- Blocks were taken by the rule one after another, each as one block from the pool of a CPU on.
abbrev pub TakesInTurn : FreeLists → ℕ → List ℕ → FreeLists → Type 0
TakesInTurn old cpu [] new = old ≡ new
TakesInTurn old cpu (b ∷ blocks) new = (next : FreeLists) × TakesOne old cpu b next × TakesInTurn next cpu blocks new

-- These blocks were taken so, once there was more room.
pub record TakesEach (old : FreeLists) (cpu : ℕ) (blocks : List ℕ) (new : FreeLists) : Type 0 where
  pub from : FreeLists
  pub same : SamePools old from
  pub sound : IsSound from
  pub each : TakesInTurn from cpu blocks new

-- So many blocks were taken so, and stand behind those that were there.
pub record TakesOnto (old : FreeLists) (cpu : ℕ) (had : List ℕ) (count : ℕ) (new : FreeLists) (has' : List ℕ) : Type 0 where
  pub more : List ℕ
  pub all : has' ≡ had ++ more
  pub count_is : length more ≡ count
  pub each : TakesInTurn old cpu more new
