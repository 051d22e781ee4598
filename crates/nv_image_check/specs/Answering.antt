-- What a recovery may answer, and what it leaves of the region.
use Rattle.std.specs.Prelude.{◌≡◌, ◌⊎◌, ℕ, ◌*◌, ◌-◌, ◌^◌, min, Bool, true, false, IsTrue, List, Option, Some, None, ⊤}
use Rattle.nv_rows.specs.RowList.{HasNumbersOf}
use Rattle.nv_region.specs.Fuses.{FuseState}
use Rattle.nv_region.specs.Region.{Region}
use Rattle.nv_super.specs.declared.superblock.Super.{Super}
use Rattle.nv_super.specs.Super.{IsSuper, IsRefused}
use Rattle.nv_journal.specs.Permitted.{slots_end}
use Rattle.nv_journal.specs.Undo.{undone}
use Rattle.nv_outcome.specs.Outcome.{IsOutcome}
use Rattle.nv_outcome.specs.Answer.{outcome_of}
use Rattle.nv_recover.specs.Errors.{UndoesAsBefore}
use Rattle.nv_recover.specs.declared.errors.RecoverError.{RecoverError}
use Rattle.nv_recover.specs.declared.errors.RecoverError.TheVariants as errors
use Rattle.nv_text.specs.declared.refusals.Refusal.{Refusal}
use Rattle.nv_text.specs.declared.refusals.Refusal.TheVariants as refusals
use Rattle.nv_image_check.specs.Workers.{is_worker_count, names_stranger}
use Rattle.nv_image_check.specs.declared.recovery.Answer.{Answer}
use Rattle.nv_image_check.specs.declared.recovery.Answer.TheVariants as answers

-- where its region has a superblock, the memory takes stores up to where slots end: in version 1 up to the first data block
abbrev pub IsOpenInFront : Region → (ℕ → Bool) → Type 0
IsOpenInFront R is_open = (s : Super) → IsSuper R s → IsTrue (is_open (4096 * slots_end s))

-- nothing stops a recovery: no fuse is set, or each store to a block in which slots can stand is taken
abbrev pub TakesRecovery : Region → FuseState → Type 0
TakesRecovery R fuse = IsTrue fuse.is_steady ⊎ IsOpenInFront R fuse.is_open

-- the refusal that an error is told as: none for want of memory, and for a stop, which doesn't come where a recovery is taken
abbrev pub refusal_of : RecoverError → Option Refusal
refusal_of (errors.Super fault) = Some (refusals.Super fault)
refusal_of errors.Memory = None
refusal_of errors.Stopped = None
refusal_of errors.Workers = Some refusals.Workers
refusal_of (errors.Schedule place) = Some refusals.Schedule

-- the error is told as this answer
abbrev pub IsToldAs : RecoverError → Answer → Type 0
IsToldAs error (answers.Recovered r) = ⊥
IsToldAs error (answers.Refused refusal) = refusal_of error ≡ Some refusal

-- the error is told as this answer, and a stop as none
abbrev pub EndsAs : RecoverError → Option Answer → Type 0
EndsAs error None = error ≡ errors.Stopped
EndsAs error (Some answer) = IsToldAs error answer

-- Why a recovery by so many workers and a schedule is refused: for the workers, else for the schedule, else for the
-- superblock's first fault.
abbrev pub RefusesRecovery : Region → ℕ → List ℕ → Refusal → Type 0
RefusesRecovery R workers schedule refusals.Workers = is_worker_count workers ≡ false
RefusesRecovery R workers schedule refusals.Schedule = (is_worker_count workers ≡ true) × (names_stranger workers schedule ≡ true)
RefusesRecovery R workers schedule (refusals.Super fault) = (is_worker_count workers ≡ true) × (names_stranger workers schedule ≡ false) × IsRefused R fault
RefusesRecovery R workers schedule _ = ⊥

-- the outcome of the region that came, whose journals are rolled back, or a refusal, which leaves the region as before
abbrev pub MayAnswer : Region → ℕ → List ℕ → Answer → Region → Type 0
MayAnswer old workers schedule (answers.Recovered r) new = (is_worker_count workers ≡ true) × (names_stranger workers schedule ≡ false)
    × IsOutcome old (outcome_of r) × (new ≡ undone r.sup old)
MayAnswer old workers schedule (answers.Refused refusal) new = RefusesRecovery old workers schedule refusal × (new ≡ old)

-- the same, or no answer: after a stop the region's journals are rolled back to what they would have been before
abbrev pub MayEnd : Region → ℕ → List ℕ → Option Answer → Region → Type 0
MayEnd old workers schedule (Some answer) new = MayAnswer old workers schedule answer new
MayEnd old workers schedule None new = (is_worker_count workers ≡ true) × (names_stranger workers schedule ≡ false) × UndoesAsBefore old new

-- the free lists, the rows and the tables that were found are those of the superblock that was found
abbrev pub IsOfItsSuper : Option Answer → Type 0
IsOfItsSuper (Some (answers.Recovered r)) = (r.free.sup ≡ r.sup) × HasNumbersOf r.tables.layout r.rows × (r.tables.layout.sup ≡ r.sup)
IsOfItsSuper (Some (answers.Refused refusal)) = ⊤
IsOfItsSuper None = ⊤

-- a number of a schedule in 32 bits: too large a one becomes the largest, which is no worker's either
abbrev pub worker_number : ℕ → ℕ
worker_number number = min number (2 ^ 32 - 1)
