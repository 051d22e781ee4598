-- What holds of an error that is handed on, or made of another.
use Rattle.std.proofs.Common.{◌≡◌, ◌≢◌, ℕ, List, inl, inr, sym, subst, true≢false, Result, Ok, Err, IfErr, IsTrue, None, Some, refl}
use Rattle.std.specs.Prelude.{IsErrAnd, ⊤}
use Rattle.nv_region.specs.Region.{Region}
use Rattle.nv_super.specs.Super.{IsSuper}
use Rattle.nv_super.specs.declared.superblock.Super.{Super}
use Rattle.nv_journal.specs.Undo.{undone}
use Rattle.nv_claimcore.specs.Replay.{first_stranger}
use Rattle.nv_outcome.specs.declared.recovered.Recovered.{Recovered}
use Rattle.nv_journal.specs.declared.undoing.UndoError.{UndoError}
use Rattle.nv_journal.specs.declared.undoing.UndoError.TheVariants as undo
use Rattle.nv_recover.specs.Errors.{Fails, IsBadCount, RefusesFirst, comes_first, error_of_undo}
use Rattle.nv_recover.specs.declared.errors.RecoverError.{RecoverError}
use Rattle.nv_recover.specs.declared.errors.RecoverError.TheVariants.{Super as Refused, Memory, Stopped, Workers, Schedule}

pub handed : {A : Type 0} (r : Result A RecoverError) (e : RecoverError) (Q : RecoverError → Type 0) → IsErrAnd r (λ x. x ≡ e) → Q e → IfErr r Q
handed (Ok a) e Q is holds = tt
handed (Err x) e Q is holds = subst Q (sym is) holds

-- the error isn't of a stop
abbrev pub GoesOn : RecoverError → Type 0
GoesOn (Refused fault) = ⊤
GoesOn Memory = ⊤
GoesOn Stopped = ⊥
GoesOn Workers = ⊤
GoesOn (Schedule place) = ⊤

pub goes_on : (e : RecoverError) → GoesOn e → e ≢ Stopped
goes_on e other = λ is. subst GoesOn is other

-- ---- what is refused first

module _ {count : ℕ} {schedule : List ℕ} (good : IsBadCount count → ⊥) where
  -- nothing, where each number of the schedule is a worker's
  pub goes_by : {result : Result Recovered RecoverError} → first_stranger count schedule ≡ None → RefusesFirst count schedule result
  goes_by none = record { count = λ bad. absurd (good bad); stranger = λ place well is. absurd (cc) }

  -- the first place that names no worker
  pub stranger_first : {place : ℕ} → first_stranger count schedule ≡ Some place → RefusesFirst count schedule (Err (Schedule place))
  stranger_first {place} is = record { count = λ bad. absurd (good bad); stranger = λ other well also. (tt, (let same : Schedule place ≡ Schedule other = cc in same)) }

-- ---- an error of the journals, by that of the call

module _ {A : Type 0} (r : Result A UndoError) where
  pub no_stop_of : (f : UndoError) → r ≡ Err f → (r ≡ Err undo.Stopped → ⊥) → error_of_undo f ≢ Stopped
  no_stop_of undo.Memory was never = goes_on Memory tt
  no_stop_of undo.Stopped was never = absurd (never was)

  pub burnt_of : (f : UndoError) (X : Type 0) → r ≡ Err f → (r ≡ Err undo.Stopped → X) → error_of_undo f ≡ Stopped → X
  burnt_of undo.Memory X was burnt = λ is. absurd (goes_on Memory tt is)
  burnt_of undo.Stopped X was burnt = λ _. burnt was

  pub fails_of : (f : UndoError) (old new : Region) (s : Super) → r ≡ Err f → IsSuper old s → IsSuper new s → (r ≡ Err undo.Memory → new ≡ old) → undone s new ≡ undone s old
      → (workers : ℕ) (schedule : List ℕ) → Fails workers schedule (error_of_undo f) old new
  fails_of undo.Memory old new s was is stays same reads = λ workers schedule. (s, is, inl (same was))
  fails_of undo.Stopped old new s was is stays same reads = λ workers schedule. (s, is, stays, reads)

-- ---- an error for want of memory

module _ {A : Type 0} (r : Result A RecoverError) (is : IsErrAnd r (λ x. x ≡ Memory)) where
  pub memory_goes_on : IfErr r (λ e. e ≢ Stopped)
  memory_goes_on = handed r Memory (λ (e : RecoverError). e ≢ Stopped) is (goes_on Memory tt)

  pub memory_not_first : (X : Type 0) → IfErr r (λ e. IsTrue (comes_first e) → X)
  memory_not_first X = handed r Memory (λ (e : RecoverError). IsTrue (comes_first e) → X) is (λ first. absurd (true≢false (sym first)))

  pub memory_not_burnt : (X : Type 0) → IfErr r (λ e. e ≡ Stopped → X)
  memory_not_burnt X = handed r Memory (λ (e : RecoverError). e ≡ Stopped → X) is (λ stopped. absurd (goes_on Memory tt stopped))

  -- before anything is stored
  pub memory_stays : (workers : ℕ) (schedule : List ℕ) (old : Region) (s : Super) → IsSuper old s → IfErr r (λ e. Fails workers schedule e old old)
  memory_stays workers schedule old s its = handed r Memory (λ (e : RecoverError). Fails workers schedule e old old) is (s, its, inl refl)

  -- once the journals are rolled back
  pub memory_fails : (workers : ℕ) (schedule : List ℕ) (old new : Region) (s : Super) → IsSuper old s → new ≡ undone s old → IfErr r (λ e. Fails workers schedule e old new)
  memory_fails workers schedule old new s its rolled = handed r Memory (λ (e : RecoverError). Fails workers schedule e old new) is (s, its, inr rolled)
