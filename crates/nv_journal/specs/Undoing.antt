-- What an undo makes of a region, what it stores, and how it ends.
use Rattle.std.specs.Prelude.{◌≡◌, ◌≤◌, ◌<◌, ◌-◌, ◌*◌, ◌↔◌, ℕ, Result, IsTrue, OnOk, IsErrOf}
use Rattle.nv_region.specs.Region.{HasBlocks, Region}
use Rattle.nv_region.specs.Stops.{Choices, NothingPending}
use Rattle.nv_region.specs.Fuses.{FuseState, KeepsFuse}
use Rattle.nv_region.specs.Stored.{SameOutside, StoresOnly}
use Rattle.nv_super.specs.declared.faults.Fault.{Fault}
use Rattle.nv_super.specs.declared.superblock.Super.{Super}
use Rattle.nv_inode.specs.Chains.{layout_of}
use Rattle.nv_inode.specs.Permitted.{slots_end}
use Rattle.nv_journal.specs.declared.undoing.UndoError.{UndoError}
use Rattle.nv_journal.specs.declared.undoing.UndoError.TheVariants.{Stopped}
use Rattle.nv_journal.specs.Undo.{undone, IsQuiet}
use Rattle.nv_journal.specs.Undone.{AllQuiet, IsUndoneOf, OutsideJournal, UndoStores}
use Rattle.nv_journal.specs.Faults.{HasFault, IsPointerFault}

-- The new region is the undone one. Undone again, it is the same region, and only the faults of pointers are left.
pub record HasUndone (s : Super) (old new : Region) : Type 0 where
  pub is : new ≡ undone s old
  pub words : IsUndoneOf s old new
  pub again : undone s new ≡ new
  pub empty : AllQuiet s.cpus new
  pub later_faults : (f : Fault) → HasFault s new f ↔ HasFault s old f × IsPointerFault f

-- At most these words are stored, and with these values: old values that pending records say, and the number that empties a
-- journal with such records. So no word of a journal that has nothing to roll back is stored. They stand behind the
-- superblock's block and in front of the end of the slots: in version 1 no data block is stored to. The region keeps its
-- blocks, and its tables: no link is a word that a journal may name.
pub record UndoesOnly {M : Type 0} (region : M → Region) (may_hold : M → Choices) (s : Super) (old new : M) : Type 0 where
  pub wrote : StoresOnly (UndoStores s (region old)) (region old) (region new) (may_hold old) (may_hold new)
  pub quiet_journals : (cpu : ℕ) → cpu < s.cpus → IsQuiet (region old) cpu → StoresOnly (OutsideJournal cpu) (region old) (region new) (may_hold old) (may_hold new)
  pub outside : SameOutside (region old) 4096 (4096 * (slots_end s - 1)) (region new)
  pub blocks : HasBlocks (region new) s.blocks
  pub chains : layout_of s (region new) ≡ layout_of s (region old)

-- Where no journal has anything to roll back, the memory is as before, and the call isn't stopped. Nor is it where the memory
-- is open up to the end of the slots. Where it is stopped, the fuse has burnt. Where nothing was pending, nothing is.
pub record EndsUndo {M T : Type 0} (region : M → Region) (may_hold : M → Choices) (fuse : M → FuseState) (s : Super) (old new : M) (result : Result T UndoError) : Type 0 where
  pub quiet : AllQuiet s.cpus (region old) → new ≡ old
  pub quiet_done : AllQuiet s.cpus (region old) → ¬ IsErrOf result Stopped
  pub open_done : IsTrue ((fuse old).is_open (4096 * slots_end s)) → ¬ IsErrOf result Stopped
  pub stopped : IsErrOf result Stopped → IsTrue (fuse new).has_burnt
  pub keeps_fuse : KeepsFuse (λ limit. 4096 * slots_end s ≤ limit) (fuse old) (fuse new)
  pub settled : NothingPending (region old) (may_hold old) → OnOk result (NothingPending (region new) (may_hold new))
