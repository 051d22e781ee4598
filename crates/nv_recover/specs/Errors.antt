-- What an error leaves of the region.
use Rattle.std.specs.Prelude.{◌≡◌, ◌⊎◌, ◌<◌, ℕ, Bool, true, false, List, Some, Result, IfOk, IfErr}
use Rattle.nv_region.specs.Region.{Region}
use Rattle.nv_super.specs.declared.superblock.Super.{Super}
use Rattle.nv_super.specs.Super.{IsSuper, IsRefused}
use Rattle.nv_journal.specs.Undo.{undone}
use Rattle.nv_journal.specs.declared.undoing.UndoError.{UndoError}
use Rattle.nv_journal.specs.declared.undoing.UndoError.TheVariants as undo
use Rattle.nv_claimcore.specs.Replay.{first_stranger}
use Rattle.nv_outcome.specs.declared.recovered.Recovered.{Recovered}
use Rattle.nv_recover.specs.declared.errors.RecoverError.{RecoverError}
use Rattle.nv_recover.specs.declared.errors.RecoverError.TheVariants.{Super as Refused, Memory, Stopped, Workers, Schedule}

-- the region is as before, or its journals are rolled back
abbrev pub AsBeforeOrUndone : Region → Region → Type 0
AsBeforeOrUndone old new = (s : Super) × IsSuper old s × ((new ≡ old) ⊎ (new ≡ undone s old))

-- the superblock is the same, and rolling the journals back gives the region that it would have given before
abbrev pub UndoesAsBefore : Region → Region → Type 0
UndoesAsBefore old new = (s : Super) × IsSuper old s × IsSuper new s × (undone s new ≡ undone s old)

-- there can't be so many workers
abbrev pub IsBadCount : ℕ → Type 0
IsBadCount workers = (workers < 1) ⊎ (64 < workers)

-- What is refused before all else: a bad number of workers, and next the first place of the schedule that names no worker.
pub record RefusesFirst (workers : ℕ) (schedule : List ℕ) (result : Result Recovered RecoverError) : Type 0 where
  pub count : IsBadCount workers → IfOk result (λ _. ⊥) × IfErr result (λ e. e ≡ Workers)
  pub stranger : (place : ℕ) → (IsBadCount workers → ⊥) → first_stranger workers schedule ≡ Some place → IfOk result (λ _. ⊥) × IfErr result (λ e. e ≡ Schedule place)

-- the error is found before anything is stored
abbrev pub comes_first : RecoverError → Bool
comes_first (Refused fault) = true
comes_first Workers = true
comes_first (Schedule place) = true
comes_first Memory = false
comes_first Stopped = false

-- When each error comes, by so many workers and a schedule, and what it leaves of the region.
abbrev pub Fails : ℕ → List ℕ → RecoverError → Region → Region → Type 0
Fails workers schedule (Refused fault) old new = IsRefused old fault × (new ≡ old)
Fails workers schedule Memory old new = AsBeforeOrUndone old new
Fails workers schedule Stopped old new = UndoesAsBefore old new
Fails workers schedule Workers old new = IsBadCount workers × (new ≡ old)
Fails workers schedule (Schedule place) old new = (first_stranger workers schedule ≡ Some place) × (new ≡ old)

-- why a region was not recovered, where its journals could not be rolled back
abbrev pub error_of_undo : UndoError → RecoverError
error_of_undo undo.Memory = Memory
error_of_undo undo.Stopped = Stopped
