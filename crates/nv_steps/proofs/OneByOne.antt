-- Blocks that were taken one by one, as takes that gave them, and as the rule has it.
use Rattle.std.proofs.Common.{ℕ, List, [], ◌∷◌, ap, map, subst}
use Rattle.nv_super.specs.declared.owners.Run.{Run}
use Rattle.nv_alloc.specs.FreeValue.{FreeLists}
use Rattle.nv_alloc.specs.Taking.{TakesSingly, block_run}
use Rattle.nv_mounted.specs.Lists.{TakeAll}
use Rattle.nv_steps.specs.Taken.{TakesEach, TakesInTurn}

-- what takes of one block each give
abbrev pub single_takes : List ℕ → List (List Run)
single_takes blocks = map (λ b. block_run b ∷ []) blocks

-- each of them by itself
pub each_taken : (old new : FreeLists) (cpu : ℕ) (blocks : List ℕ) → TakesInTurn old cpu blocks new → TakeAll old (single_takes blocks) new
each_taken old new cpu [] same = same
each_taken old new cpu (b ∷ blocks) w = (w.0, record { sound = w.1.after; sup = w.1.took.sup; blocks = 1; leave = w.1.leave }, each_taken w.0 new cpu blocks w.2)

pub singly_taken : (old new : FreeLists) (cpu : ℕ) (blocks : List ℕ) → TakesInTurn old cpu blocks new → TakesSingly old.pools cpu blocks new.pools
singly_taken old new cpu [] same = ap (λ (a : FreeLists). a.pools) same
singly_taken old new cpu (b ∷ blocks) w = (w.0.pools, w.1.took.takes, singly_taken w.0 new cpu blocks w.2)

module _ {old new : FreeLists} {cpu : ℕ} {blocks : List ℕ} (taken : TakesEach old cpu blocks new) where
  pub takes_of : TakeAll taken.from (single_takes blocks) new
  takes_of = each_taken taken.from new cpu blocks taken.each

  -- from the pools before
  pub by_rule : TakesSingly old.pools cpu blocks new.pools
  by_rule = let same = taken.same in subst (λ (pools : List (List Run)). TakesSingly pools cpu blocks new.pools) same.pools (singly_taken taken.from new cpu blocks taken.each)
