-- What a call leaves of a mounted file system: all of it, or what no call changes.
use Rattle.std.specs.Prelude.{◌≡◌, ◌⊎◌, ℕ, Option, Some, None, IsTrue}
use Rattle.nv_super.specs.Layout.{Layout, slot_of}
use Rattle.nv_inode.specs.Growing.{with_block}
use Rattle.nv_inode.specs.Numbers.{has_slot}
use Rattle.nv_outcome.specs.Same.{SameRows}
use Rattle.nv_rows.specs.Unused.{unused_number}
use Rattle.nv_calls.specs.Mount.{Mount}
use Rattle.nv_steps.specs.Taken.{SamePools}

-- All is as before but for the room that growths have made: rows are compared by what each page and each name stands for.
pub record SameMount {P : Type 0} (old new : Mount P) : Type 0 where
  pub memory : new.memory ≡ old.memory
  pub sup : new.sup ≡ old.sup
  pub layout : new.layout ≡ old.layout
  pub rows : SameRows old.rows new.rows
  pub free : SamePools old.free new.free
  pub faults : new.faults ≡ old.faults
  pub read_only : new.read_only ≡ old.read_only
  pub stopped : new.stopped ≡ old.stopped

-- What no call changes but `create`, `mkdir` and `upgrade`, which change the tables.
pub record KeepsMount {P : Type 0} (old new : Mount P) : Type 0 where
  pub sup : new.sup ≡ old.sup
  pub layout : new.layout ≡ old.layout
  pub faults : new.faults ≡ old.faults
  pub read_only : new.read_only ≡ old.read_only

-- The tables are as before. Or no number of the CPU's table was unused, in version 2, and its chain has one block more.
abbrev pub GrowsWhereFull : {P : Type 0} → Mount P → ℕ → Layout → Type 0
GrowsWhereFull m cpu after = (after ≡ m.layout) ⊎ ((m.layout.sup.version ≡ 2) × (unused_number m.layout m.rows cpu ≡ None) × (b : ℕ) × (after ≡ with_block m.layout cpu b))

-- What `create` and `mkdir` change of it alone: a table may grow.
pub record GrowsMount {P : Type 0} (cpu : ℕ) (old new : Mount P) : Type 0 where
  pub sup : new.sup ≡ old.sup
  pub tables : GrowsWhereFull old cpu new.layout
  pub faults : new.faults ≡ old.faults
  pub read_only : new.read_only ≡ old.read_only

-- By the number that a new inode gets: where it has a slot the tables stay, and else the chain of the CPU has one block more. Without
-- a number they stay.
abbrev pub IsLaidFor : Layout → ℕ → Option ℕ → Layout → Type 0
IsLaidFor l cpu None after = after ≡ l
IsLaidFor l cpu (Some j) after = (IsTrue (has_slot l j) × (after ≡ l)) ⊎ ((slot_of l j ≡ None) × ((b : ℕ) × (after ≡ with_block l cpu b)))
