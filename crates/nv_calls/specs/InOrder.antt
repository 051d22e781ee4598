-- Which of the two words of a call's commit is stored first, by the region as it reads behind the call, also where it was stopped.
use Rattle.std.specs.Prelude.{ℕ, List}
use Rattle.nv_region.specs.Region.{Region}
use Rattle.nv_super.specs.declared.owners.Run.{Run}
use Rattle.nv_super.specs.Layout.{Layout}
use Rattle.nv_steps.specs.Slots.{slot_in}
use Rattle.nv_journal.specs.InOrder.{FirstIsFirst}
use Rattle.nv_entry.specs.declared.entry.Entry.{Entry}
use Rattle.nv_mounted.specs.Held.{Held}
use Rattle.nv_steps.specs.InOrder.{TailIsFirst, tail_address}

-- A word is stored after the tail of an inode's log: it is as it was, or the tail stands behind these entries.
abbrev pub ShowsTailFirst : Region → Region → Layout → List (List Run) → ℕ → ℕ → Held → List Entry → ℕ → Type 0
ShowsTailFirst R S l pools cpu i h entries at = ∥ (TailIsFirst R S l pools cpu i h.tail entries at) ∥₁

-- A directory's tail is stored after the valid word of a new inode.
abbrev pub ShowsValidFirst : Region → Region → Layout → ℕ → ℕ → Type 0
ShowsValidFirst R S l j d = ∥ (FirstIsFirst R (slot_in l j) 1 (tail_address l d) S) ∥₁
