-- What is so of free lists that got more room is so of those before.
use Rattle.std.proofs.Common.{◌≡◌, ◌⊎◌, ℕ, ◌<◌, ◌∙◌, List, subst}
use Rattle.nv_super.specs.declared.owners.Run.{Run}
use Rattle.nv_alloc.specs.FreeValue.{FreeLists}
use Rattle.nv_alloc.specs.FreeLists.{SameLists}
use Rattle.nv_alloc.specs.Taking.{all_blocks}
use Rattle.nv_tree.specs.declared.refusal.Refusal.{Refusal}
use Rattle.nv_tree.specs.declared.refusal.Refusal.TheVariants.{Memory, NoSpace, Stopped}
use Rattle.nv_steps.specs.Steps.{RefusesStep}
use Rattle.nv_steps.specs.Taken.{SamePools, TakesEach}

pub taken_since : {old mid new : FreeLists} {cpu : ℕ} {blocks : List ℕ} → SameLists old mid → TakesEach mid cpu blocks new → TakesEach old cpu blocks new
taken_since same taken =
    let from = taken.same in
    record { from = taken.from; same = record { sup = from.sup ∙ same.sup; pools = from.pools ∙ same.pools }; sound = taken.sound; each = taken.each }

pub refused_since : {old mid : FreeLists} {n : ℕ} → SameLists old mid → (e : Refusal) → RefusesStep e n mid → RefusesStep e n old
refused_since {n = n} same e refuses = subst (λ (pools : List (List Run)). (e ≡ Memory) ⊎ ((e ≡ Stopped) ⊎ ((e ≡ NoSpace) × (all_blocks pools < n)))) same.pools refuses

pub same_since : {old mid new : FreeLists} → SameLists old mid → SamePools mid new → SamePools old new
same_since same later = record { sup = later.sup ∙ same.sup; pools = later.pools ∙ same.pools }
