-- A recovery that nothing stops: only want of memory is told as no refusal.
use Rattle.std.proofs.Common.{◌≡◌, ◌≢◌, ◌*◌, ℕ, None, List, inl, inr, IsTrue, refl, subst}
use Rattle.nv_region.specs.Fuses.{FuseState}
use Rattle.nv_region.specs.Region.{Region}
use Rattle.nv_super.specs.declared.superblock.Super.{Super}
use Rattle.nv_super.specs.Super.{IsSuper}
use Rattle.nv_journal.specs.Permitted.{slots_end}
use Rattle.nv_recover.specs.Errors.{Fails, UndoesAsBefore, AsBeforeOrUndone}
use Rattle.nv_recover.specs.declared.errors.RecoverError.{RecoverError}
use Rattle.nv_recover.specs.declared.errors.RecoverError.TheVariants as errors
use Rattle.nv_image_check.specs.Answering.{refusal_of, TakesRecovery}

-- without a fuse, and where the stores to blocks in which slots can stand are taken, there is no stop
pub never_stopped : (R R' : Region) (workers : ℕ) (schedule : List ℕ) (e : RecoverError) → Fails workers schedule e R R' → (fuse : FuseState) → TakesRecovery R fuse
    → (IsTrue fuse.is_steady → e ≢ errors.Stopped) → ((s : Super) → IsSuper R s → IsTrue (fuse.is_open (4096 * slots_end s)) → e ≢ errors.Stopped) → e ≢ errors.Stopped
never_stopped R R' workers schedule e fails fuse (inl steady) by_steady by_open = by_steady steady
never_stopped R R' workers schedule e fails fuse (inr front) by_steady by_open = λ same.
    let left : UndoesAsBefore R R' = subst (λ (x : RecoverError). Fails workers schedule x R R') same fails in
    by_open left.0 left.1 (front left.0 left.1) same

pub want_of_memory : (R R' : Region) (workers : ℕ) (schedule : List ℕ) (e : RecoverError) → Fails workers schedule e R R' → e ≢ errors.Stopped → refusal_of e ≡ None → AsBeforeOrUndone R R'
want_of_memory R R' workers schedule errors.Memory fails unstopped none = fails
want_of_memory R R' workers schedule errors.Stopped fails unstopped none = absurd (unstopped refl)
want_of_memory R R' workers schedule (errors.Super fault) fails unstopped none = absurd (cc)
want_of_memory R R' workers schedule errors.Workers fails unstopped none = absurd (cc)
want_of_memory R R' workers schedule (errors.Schedule place) fails unstopped none = absurd (cc)
