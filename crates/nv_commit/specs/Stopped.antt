-- What rolling back the journals of a region shows that a stop has left.
use Rattle.std.specs.Prelude.{◌≡◌, ◌⊎◌, ℕ, Some}
use Rattle.nv_region.specs.Region.{Region}
use Rattle.nv_super.specs.declared.superblock.Super.{Super}
use Rattle.nv_super.specs.Layout.{Layout}
use Rattle.nv_super.specs.Super.{IsSuper}
use Rattle.nv_journal.specs.Undo.{undone}
use Rattle.nv_journal.specs.Faults.{NoFault}
use Rattle.nv_mounted.specs.Held.{Held, Store}
use Rattle.nv_mounted.specs.Bytes.{byte_of}
use Rattle.nv_mounted.specs.Mounted.{ShowsSound}

-- The region has this superblock, and nothing is wrong with its journals.
pub record CanRecover (s : Super) (left : Region) : Type 0 where
  pub sup : IsSuper left s
  pub journals : NoFault s left

-- Rolled back, the region shows this with nothing wrong, and each byte that a file had in the region before is where it was.
pub record RollsBackTo (R : Region) (l : Layout) (held after : Store) (left : Region) : Type 0 where
  pub can : CanRecover l.sup left
  pub open can use *
  pub sound : ShowsSound (undone l.sup left) l after
  pub bytes : (i : ℕ) (h : Held) → held i ≡ Some h → (x : ℕ) → byte_of (undone l.sup left) l h x ≡ byte_of R l h x

-- What a stop leaves of a step: rolled back, it is what was there, or what the step makes.
abbrev pub LeavesEither : Region → Layout → Store → (Region → Type 0) → Region → Type 0
LeavesEither R l held Made left = RollsBackTo R l held held left ⊎ (CanRecover l.sup left × Made (undone l.sup left))
