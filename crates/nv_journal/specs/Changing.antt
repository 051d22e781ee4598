-- What a call needs and keeps that changes words by the journal of a CPU, and what undo makes of the regions that it leaves.
use Rattle.std.specs.Prelude.{◌≤◌, ◌⊎◌, ◌+◌, ℕ, Bool, Result, OnOk}
use Rattle.nv_region.specs.Region.{Region, size}
use Rattle.nv_region.specs.Stops.{Choices}
use Rattle.nv_region.specs.Fuses.{FuseState}
use Rattle.nv_region.specs.Stored.{StoresOnly, Within}
use Rattle.nv_region.specs.Storing.{AtAnyMoment, StoresAndFences}
use Rattle.nv_journal.specs.Undo.{journal}
use Rattle.nv_journal.specs.Pending.{IsEmpty}
use Rattle.nv_journal.specs.Recorded.{JournalWords}
use Rattle.nv_journal.specs.Faults.{NoJournalFault}

-- The journal of this CPU lies within the region, and it is empty.
pub record IsReady (R : Region) (cpu : ℕ) : Type 0 where
  pub inside : journal cpu + 4096 ≤ size R
  pub empty : IsEmpty R cpu

-- A call stores at most these and words of this CPU's journal, and leaves the journal empty. Of the journal's block it stores
-- to the numbers and the records alone.
pub record StoresByJournal {M T E : Type 0} (region : M → Region) (may_hold : M → Choices) (fuse : M → FuseState) (cpu : ℕ) (these : Choices) (behind : ℕ
    → Type 0) (old new : M) (result : Result T E) : Type 0 where
  pub stores : StoresAndFences region may_hold fuse (λ i x. Within (journal cpu) 4096 i x ⊎ these i x) behind old new result
  pub open stores use *
  pub keeps_link : StoresOnly (λ i x. JournalWords cpu i x ⊎ these i x) (region old) (region new) (may_hold old) (may_hold new)
  pub empty : OnOk result (IsEmpty (region new) cpu)

-- At any moment of the call undo gives a region with P. Where nothing was wrong with a journal, nothing is wrong with one in
-- the region as it reads and in each that a stop leaves.
pub record UndoGives {M : Type 0} (region : M → Region) (may_hold : M → Choices) (permits : ℕ → Bool) (cpus : ℕ) (old new : M) (P : Region → Type 0) : Type 0 where
  pub moments : AtAnyMoment region may_hold old new P
  pub open moments use *
  pub faultless : NoJournalFault permits cpus (region old) → AtAnyMoment region may_hold old new (NoJournalFault permits cpus)
