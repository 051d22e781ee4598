-- Journals that hold records, and regions that differ in their journals alone.
use Rattle.std.specs.Prelude.{◌≡◌, ◌⊎◌, ◌≤◌, ◌<◌, ◌+◌, ◌*◌, ◌%◌, ℕ, Bool, true, IsTrue, List, length}
use Rattle.nv_region.specs.Region.{Region, word, put}
use Rattle.nv_region.specs.Stored.{SameOutside}
use Rattle.nv_inode.specs.Permitted.{LiesBehind}
use Rattle.nv_journal.specs.Undone.{AllQuiet}
use Rattle.nv_journal.specs.Undo.{journal, dequeue, enqueue, is_sound, pending_count, pending_from, undo}

-- the journal is sound and has no pending record
abbrev pub IsEmpty : Region → ℕ → Type 0
IsEmpty R cpu = (dequeue R cpu ≡ enqueue R cpu) × (enqueue R cpu < 252)

-- the journal is sound, and just these records are pending, the oldest first
pub record HasRecords (R : Region) (cpu : ℕ) (records : List (ℕ × ℕ)) : Type 0 where
  pub sound : is_sound R cpu ≡ true
  pub pending : pending_from R cpu 0 (pending_count R cpu) ≡ records

-- only the block of this journal may have changed, and all of the records are pending or none
pub record Begun (R : Region) (cpu : ℕ) (records : List (ℕ × ℕ)) (left : Region) : Type 0 where
  pub others : SameOutside R (journal cpu) 4096 left
  pub whole : IsEmpty left cpu ⊎ HasRecords left cpu records

-- an address outside the journals
abbrev pub IsOutside : ℕ → ℕ → Type 0
IsOutside cpus at = (at < 4096) ⊎ ((1 + cpus) * 4096 ≤ at)

-- the regions differ in the journals' blocks alone
pub record SameButJournals (cpus : ℕ) (R S : Region) : Type 0 where
  pub as_long : length S.words ≡ length R.words
  pub same_rest : S.rest ≡ R.rest
  pub words : (at : ℕ) → at % 8 ≡ 0 → IsOutside cpus at → word S at ≡ word R at

-- Outside the journals the undone region is the one from before, or the one with both words.
abbrev pub BeforeOrAfter : (ℕ → Bool) → ℕ → Region → ℕ → ℕ → ℕ → ℕ → Region → Type 0
BeforeOrAfter permits cpus R first first_value second second_value left =
    SameButJournals cpus R (undo permits cpus left) ⊎ SameButJournals cpus (put (put R first first_value) second second_value) (undo permits cpus left)

-- Both words are permitted and stand behind the journals, of which this CPU's is one, and no journal has anything to roll back.
pub record CanUndo (permits : ℕ → Bool) (cpus : ℕ) (R : Region) (cpu first second : ℕ) : Type 0 where
  pub rule : LiesBehind permits ((1 + cpus) * 4096)
  pub journals : (1 + cpus) * 4096 ≤ 8 * length R.words
  pub inside : cpu < cpus
  pub permits_first : IsTrue (permits first)
  pub permits_second : IsTrue (permits second)
  pub quiet : AllQuiet cpus R
