-- Words that change together, any number of them: each is a byte address and the value that it gets.
use Rattle.std.specs.Prelude.{◌⊎◌, ◌≤◌, ◌<◌, ◌+◌, ◌*◌, ℕ, Bool, IsTrue, All, List, [], ◌∷◌, length}
use Rattle.nv_region.specs.Region.{Region, put}
use Rattle.nv_region.specs.Stops.{Choices, One}
use Rattle.nv_region.specs.Stored.{Within}
use Rattle.nv_inode.specs.Permitted.{LiesBehind}
use Rattle.nv_journal.specs.Undo.{journal, undo}
use Rattle.nv_journal.specs.Undone.{AllQuiet}
use Rattle.nv_journal.specs.Pending.{SameButJournals}
use Rattle.nv_journal.specs.Recorded.{JournalWords}

-- the region with these values in their words, the first of them stored first
abbrev pub changed : List (ℕ × ℕ) → Region → Region
changed [] R = R
changed (c ∷ changes) R = changed changes (put R c.0 c.1)

-- one of these values at its address
abbrev pub Values : List (ℕ × ℕ) → Choices
Values [] i x = ⊥
Values (c ∷ changes) i x = One c.0 c.1 i x ⊎ Values changes i x

-- any word of this CPU's journal, or one of these values at its address
abbrev pub ChangesAll : ℕ → List (ℕ × ℕ) → Choices
ChangesAll cpu changes i x = Within (journal cpu) 4096 i x ⊎ Values changes i x

-- any value in the numbers of this CPU's journal or in its records, or one of these values at its address
abbrev pub CommitsAll : ℕ → List (ℕ × ℕ) → Choices
CommitsAll cpu changes i x = JournalWords cpu i x ⊎ Values changes i x

-- Outside the journals the undone region is the one from before, or the one with all of the words changed.
abbrev pub BeforeOrAll : (ℕ → Bool) → ℕ → Region → List (ℕ × ℕ) → Region → Type 0
BeforeOrAll permits cpus R changes left = SameButJournals cpus R (undo permits cpus left) ⊎ SameButJournals cpus (changed changes R) (undo permits cpus left)

-- All of the words are permitted and stand behind the journals, of which this CPU's is one, and no journal has anything to roll back.
pub record CanUndoAll (permits : ℕ → Bool) (cpus : ℕ) (R : Region) (cpu : ℕ) (changes : List (ℕ × ℕ)) : Type 0 where
  pub rule : LiesBehind permits ((1 + cpus) * 4096)
  pub journals : (1 + cpus) * 4096 ≤ 8 * length R.words
  pub inside : cpu < cpus
  pub permits_all : All (λ (c : ℕ × ℕ). IsTrue (permits c.0)) changes
  pub quiet : AllQuiet cpus R
