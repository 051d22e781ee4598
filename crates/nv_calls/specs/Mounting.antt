-- What a mount finds in a memory, and which memory comes back from it.
use Rattle.std.specs.Prelude.{◌≡◌, ◌≢◌, ◌*◌, ℕ, false, List, Result, Ok, Err, IsTrue, IfErr}
use Rattle.nv_region.specs.Region.{Region}
use Rattle.nv_region.specs.Stops.{Choices, LeavesOnly}
use Rattle.nv_region.specs.Fuses.{FuseState, KeepsFuse}
use Rattle.nv_region.specs.Stored.{StoresOnly}
use Rattle.nv_super.specs.declared.superblock.Super.{Super}
use Rattle.nv_super.specs.Super.{IsSuper}
use Rattle.nv_super.specs.declared.owners.Owner.{Owner}
use Rattle.nv_outcome.specs.Outcome.{IsOutcome}
use Rattle.nv_outcome.specs.declared.recovered.Recovered.{Recovered}
use Rattle.nv_journal.specs.Undone.{AllQuiet}
use Rattle.nv_journal.specs.Permitted.{slots_end}
use Rattle.nv_recover.specs.Behind.{BehindSlots, RecoveryStores}
use Rattle.nv_recover.specs.Errors.{UndoesAsBefore, comes_first}
use Rattle.nv_recover.specs.declared.errors.RecoverError.{RecoverError}
use Rattle.nv_recover.specs.declared.errors.RecoverError.TheVariants.{Stopped}
use Rattle.nv_calls.specs.Mount.{Mount, has_faults, told}

-- Superblock, rows, free lists and faults are those of the outcome of this region, in which some blocks may be doubled.
abbrev pub TellsOutcome : {P : Type 0} → Region → Mount P → Type 0
TellsOutcome R fs = ∥ ((doubled : List (ℕ × Owner)) × IsOutcome R (told fs.layout fs.rows fs.free doubled fs.faults)) ∥₁

-- The mount of what a recovery found in a memory. It can only be read where there are faults.
pub record IsMountOf {P : Type 0} (p : P) (found : Recovered) (m : Mount P) : Type 0 where
  pub memory : m.memory ≡ p
  pub sup : m.sup ≡ found.sup
  pub layout : m.layout ≡ found.tables.layout
  pub rows : m.rows ≡ found.rows.items
  pub free : m.free ≡ found.free
  pub faults : m.faults ≡ found.faults.items
  pub read_only : m.read_only ≡ has_faults found.faults.items
  pub stopped : m.stopped ≡ false

-- the memory that comes back: it is mounted, or stands beside the error
abbrev pub memory_back : {P : Type 0} → Result (Mount P) (P × RecoverError) → P
memory_back (Ok fs) = fs.memory
memory_back (Err refused) = refused.0

-- With nothing to roll back, the memory that comes back is as before, and so it is where the error is found before anything is
-- stored. It isn't stopped then, nor where the memory takes stores up to where slots end: in version 1 up to the first data block.
-- Where it is stopped, the fuse has burnt. At most what rolling the journals back stores is stored: nothing to a journal that has
-- nothing to roll back. Whatever a stop leaves has the same undone region.
pub record KeepsMounting {P : Type 0} (region : P → Region) (may_hold : P → Choices) (fuse : P → FuseState) (memory : P) (result : Result (Mount P) (P × RecoverError)) : Type 0 where
  pub quiet : (s : Super) → IsSuper (region memory) s → AllQuiet s.cpus (region memory) → memory_back result ≡ memory
  pub quiet_done : (s : Super) → IsSuper (region memory) s → AllQuiet s.cpus (region memory) → IfErr result (λ e. e.1 ≢ Stopped)
  pub untouched : IfErr result (λ e. IsTrue (comes_first e.1) → e.0 ≡ memory)
  pub stopped : IfErr result (λ e. e.1 ≡ Stopped → IsTrue (fuse e.0).has_burnt)
  pub keeps_fuse : KeepsFuse (BehindSlots (region memory)) (fuse memory) (fuse (memory_back result))
  pub wrote : StoresOnly (RecoveryStores (region memory)) (region memory) (region (memory_back result)) (may_hold memory) (may_hold (memory_back result))
  pub unstopped : (s : Super) → IsSuper (region memory) s → IsTrue ((fuse memory).is_open (4096 * slots_end s)) → IfErr result (λ e. e.1 ≢ Stopped)
  pub any_stop : (s : Super) → IsSuper (region memory) s → LeavesOnly (region (memory_back result)) (may_hold (memory_back result)) (UndoesAsBefore (region memory))
