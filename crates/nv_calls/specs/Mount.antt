-- What contracts see of a mounted file system, and what it keeps.
use Rattle.std.specs.Prelude.{◌≡◌, ℕ, nat_lt, Bool, false, List, length}
use Rattle.nv_region.specs.Region.{Region}
use Rattle.nv_super.specs.declared.superblock.Super.{Super}
use Rattle.nv_super.specs.Layout.{Layout}
use Rattle.nv_super.specs.declared.faults.Fault.{Fault}
use Rattle.nv_super.specs.declared.owners.Owner.{Owner}
use Rattle.nv_journal.specs.Undo.{undone}
use Rattle.nv_alloc.specs.FreeValue.{FreeLists}
use Rattle.nv_scan.specs.declared.piece.Row.{Row}
use Rattle.nv_outcome.specs.Outcome.{Outcome, IsOutcome}
use Rattle.nv_outcome.specs.Same.{lasting_outcome}
use Rattle.nv_tree.specs.Tree.{Tree}
use Rattle.nv_paths.specs.Seen.{tree_of}

-- The memory, and what stands for its region: the superblock's numbers, the layout of its tables, the rows of the inodes in use,
-- rising, the free lists and the faults. Whether nothing may be written, and whether the memory was stopped.
pub record Mount (P : Type 0) : Type 0 where
  pub memory : P
  pub sup : Super
  pub layout : Layout
  pub rows : List Row
  pub free : FreeLists
  pub faults : List Fault
  pub read_only : Bool
  pub stopped : Bool

-- the tree that a mount shows, by the region of its memory
abbrev pub shown : {P : Type 0} → (P → Region) → Mount P → Tree
shown region m = tree_of (region m.memory) m.rows

-- these parts as an outcome
abbrev pub told : Layout → List Row → FreeLists → List (ℕ × Owner) → List Fault → Outcome
told l rows free doubled faults = record { sup = l.sup; tables = l.chains; rows = rows; free = free.pools; doubled = doubled; faults = faults }

-- whether a recovery found faults
abbrev pub has_faults : List Fault → Bool
has_faults faults = nat_lt 0 (length faults)

-- The layout and the free lists are those of the superblock. Until it is stopped, the region is its own undone region, and the
-- tables, the rows, the free lists and the lasting faults are its outcome's. It is written only where no fault was found.
pub record IsKept (R : Region) (s : Super) (l : Layout) (rows : List Row) (free : FreeLists) (faults : List Fault) (read_only stopped : Bool) : Type 0 where
  pub writes : read_only ≡ has_faults faults
  pub tables : l.sup ≡ s
  pub lists : free.sup ≡ l.sup
  pub own : stopped ≡ false → undone l.sup R ≡ R
  pub shown : stopped ≡ false → ∥ ((doubled : List (ℕ × Owner)) × IsOutcome R (lasting_outcome (told l rows free doubled faults))) ∥₁
