-- What is stored while a journal is in use.
use Rattle.std.specs.Prelude.{◌≡◌, ◌⊎◌, ◌<◌, ◌+◌, ◌/◌, ℕ, List, get_or}
use Rattle.nv_region.specs.Region.{Region, word}
use Rattle.nv_region.specs.Stops.{Choices}
use Rattle.nv_region.specs.Stored.{Within}
use Rattle.nv_journal.specs.Undo.{journal, place_of}
use Rattle.nv_journal.specs.declared.pending.Pending.{Pending}

-- the first of the records stand in the places from the dequeue number on
abbrev pub Recorded : Region → Pending → List (ℕ × ℕ) → ℕ → Type 0
Recorded R p records count = (j : ℕ) → j < count → (word R (place_of p j) ≡ (get_or records j (0, 0)).0) × (word R (place_of p j + 8) ≡ (get_or records j (0, 0)).1)

-- these values at these two addresses
abbrev pub Two : ℕ → ℕ → ℕ → ℕ → Choices
Two first first_value second second_value i x = ((i ≡ first / 8) × (x ≡ first_value)) ⊎ ((i ≡ second / 8) × (x ≡ second_value))

-- any word of this CPU's journal, or one of these values at its address
abbrev pub Changes : ℕ → ℕ → ℕ → ℕ → ℕ → Choices
Changes cpu first first_value second second_value i x = Within (journal cpu) 4096 i x ⊎ Two first first_value second second_value i x

-- Any value in the numbers of a CPU's journal, or in its records. The words between them stay: one is the link to the first
-- further block of the CPU's table.
abbrev pub JournalWords : ℕ → Choices
JournalWords cpu i x = Within (journal cpu) 16 i x ⊎ Within (journal cpu + 64) 4032 i x

-- any of these, or one of these values at its address
abbrev pub CommitWords : ℕ → ℕ → ℕ → ℕ → ℕ → Choices
CommitWords cpu first first_value second second_value i x = JournalWords cpu i x ⊎ Two first first_value second second_value i x
