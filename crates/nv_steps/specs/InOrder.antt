-- Which of the words of a commit is stored first, by the rows.
use Rattle.std.specs.Prelude.{◌≡◌, ◌⊎◌, ℕ, ◌+◌, ◌%◌, List, ◌++◌, length}
use Rattle.nv_region.specs.Region.{Region, word}
use Rattle.nv_super.specs.Layout.{Layout}
use Rattle.nv_super.specs.declared.owners.Run.{Run}
use Rattle.nv_steps.specs.Slots.{slot_in}
use Rattle.nv_alloc.specs.Taking.{TakesSingly}
use Rattle.nv_entry.specs.declared.entry.Entry.{Entry}
use Rattle.nv_logpage.specs.Append.{end_of, needed}

-- where the tail stands in the slot of an inode
abbrev pub tail_address : Layout → ℕ → ℕ
tail_address l i = slot_in l i + 24

-- The tail of an inode's log stands behind these entries, over blocks that a CPU takes one by one from these pools.
pub record TailMoved (S : Region) (l : Layout) (pools : List (List Run)) (cpu i tail : ℕ) (entries : List Entry) : Type 0 where
  pub fresh : List ℕ
  pub rest : List (List Run)
  pub taken : TakesSingly pools cpu fresh rest
  pub count : length fresh ≡ needed (tail % 4096) entries
  pub moved : word S (tail_address l i) ≡ end_of fresh 0 tail entries

-- A word is stored after that tail: it is as it was, or the tail has moved.
abbrev pub TailIsFirst : Region → Region → Layout → List (List Run) → ℕ → ℕ → ℕ → List Entry → ℕ → Type 0
TailIsFirst R S l pools cpu i tail entries at = (word S at ≡ word R at) ⊎ TailMoved S l pools cpu i tail entries

-- The tail of an inode's log stands behind these entries, over blocks that a CPU takes one by one from these pools after so many
-- others.
pub record TailMovedAfter (S : Region) (l : Layout) (pools : List (List Run)) (cpu before i tail : ℕ) (entries : List Entry) : Type 0 where
  pub earlier : List ℕ
  pub fresh : List ℕ
  pub rest : List (List Run)
  pub taken : TakesSingly pools cpu (earlier ++ fresh) rest
  pub earlier_count : length earlier ≡ before
  pub count : length fresh ≡ needed (tail % 4096) entries
  pub moved : word S (tail_address l i) ≡ end_of fresh 0 tail entries

-- A word is stored after that tail.
abbrev pub TailIsNext : Region → Region → Layout → List (List Run) → ℕ → ℕ → ℕ → ℕ → List Entry → ℕ → Type 0
TailIsNext R S l pools cpu before i tail entries at = (word S at ≡ word R at) ⊎ TailMovedAfter S l pools cpu before i tail entries
