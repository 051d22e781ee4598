-- What a recovery does to its memory, and when it is stopped.
use Rattle.std.specs.Prelude.{◌≡◌, ◌≢◌, ◌*◌, Result, IsTrue, IfOk, IfErr}
use Rattle.nv_region.specs.Region.{Region}
use Rattle.nv_region.specs.Stops.{Choices, LeavesOnly, NothingPending}
use Rattle.nv_region.specs.Fuses.{FuseState, KeepsFuse}
use Rattle.nv_region.specs.Stored.{StoresOnly}
use Rattle.nv_super.specs.declared.superblock.Super.{Super}
use Rattle.nv_super.specs.Super.{IsSuper}
use Rattle.nv_journal.specs.Permitted.{slots_end}
use Rattle.nv_journal.specs.Undone.{AllQuiet}
use Rattle.nv_recover.specs.declared.errors.RecoverError.{RecoverError}
use Rattle.nv_recover.specs.declared.errors.RecoverError.TheVariants.{Stopped}
use Rattle.nv_recover.specs.Behind.{BehindSlots, RecoveryStores}
use Rattle.nv_recover.specs.Errors.{UndoesAsBefore, comes_first}

-- Where it is stopped, the fuse has burnt. With nothing to roll back it isn't stopped, nor is it where the memory takes stores up
-- to where slots end: in version 1 to the first data block.
pub record StopsBurnt {M T : Type 0} (region : M → Region) (fuse : M → FuseState) (old new : M) (result : Result T RecoverError) : Type 0 where
  pub stopped : IfErr result (λ e. e ≡ Stopped → IsTrue (fuse new).has_burnt)
  pub quiet_done : (s : Super) → IsSuper (region old) s → AllQuiet s.cpus (region old) → IfErr result (λ e. e ≢ Stopped)
  pub unstopped : (s : Super) → IsSuper (region old) s → IsTrue ((fuse old).is_open (4096 * slots_end s)) → IfErr result (λ e. e ≢ Stopped)

-- With nothing to roll back, the memory is as before, and so it is where the error is found before anything is stored. At most
-- what rolling the journals back stores is stored: nothing to a journal that has nothing to roll back. Whatever a stop leaves
-- has the same undone region.
pub record KeepsRecovering {M T : Type 0} (region : M → Region) (may_hold : M → Choices) (fuse : M → FuseState) (old new : M) (result : Result T RecoverError) : Type 0 where
  pub stops : StopsBurnt region fuse old new result
  pub open stops use *
  pub quiet : (s : Super) → IsSuper (region old) s → AllQuiet s.cpus (region old) → new ≡ old
  pub untouched : IfErr result (λ e. IsTrue (comes_first e) → new ≡ old)
  pub wrote : StoresOnly (RecoveryStores (region old)) (region old) (region new) (may_hold old) (may_hold new)
  pub keeps_fuse : KeepsFuse (BehindSlots (region old)) (fuse old) (fuse new)
  pub settled : NothingPending (region old) (may_hold old) → IfOk result (λ _. NothingPending (region new) (may_hold new))
  pub any_stop : (s : Super) → IsSuper (region old) s → NothingPending (region old) (may_hold old) → LeavesOnly (region new) (may_hold new) (UndoesAsBefore (region old))
