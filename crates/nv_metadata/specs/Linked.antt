-- The blocks of logs, as the links of their pages lead to them.
use Rattle.std.specs.Prelude.{◌≡◌, ◌≢◌, ◌+◌, ◌*◌, ◌/◌, ◌%◌, ◌==◌, ℕ, if◌then◌else◌, min, true, Some}
use Rattle.nv_region.specs.Region.{Region, word}
use Rattle.nv_super.specs.declared.superblock.Super.{Super}
use Rattle.nv_super.specs.declared.kind.Kind.{Kind}
use Rattle.nv_super.specs.Layout.{fixed_layout, is_page_start, slot_of}
use Rattle.nv_inode.specs.Slot.{kind_at, is_right_log}
use Rattle.nv_journal.specs.Undo.{undone}
use Rattle.nv_logpage.specs.ToTail.{longest_entry}

-- where the page in a block leads
abbrev pub link_in : Region → ℕ → ℕ
link_in R b = word R (4096 * b + 4064)

-- A block is linked: it is that of a log's head, or the page of a linked block leads to it. The page of the tail leads nowhere,
-- nor does one whose link isn't the start of a data block.
pub data IsLinked (R : Region) (s : Super) (head tail : ℕ) : ℕ → Type 0 where
  first : IsLinked R s head tail (head / 4096)
  next : {b : ℕ} → IsLinked R s head tail b → b ≢ tail / 4096 → is_page_start s (link_in R b) ≡ true → IsLinked R s head tail (link_in R b / 4096)

-- an inode in use, whose slot in the fixed tables has this address, has a log with this head and tail, which are right
pub record IsLogOf (U : Region) (s : Super) (i a head tail : ℕ) : Type 0 where
  pub kind : Kind
  pub slot : slot_of (fixed_layout s) i ≡ Some a
  pub used : kind_at U a ≡ Some kind
  pub head_is : head ≡ word U (a + 16)
  pub tail_is : tail ≡ word U (a + 24)
  pub right : is_right_log s head tail ≡ true

-- some inode has it
abbrev pub IsLog : Region → Super → ℕ → ℕ → Type 0
IsLog U s head tail = (i a : ℕ) × IsLogOf U s i a head tail

-- a block is linked in a log of the region, whose journals are rolled back first
abbrev pub IsLogBlock : Super → Region → ℕ → Type 0
IsLogBlock s R b = (head tail : ℕ) × IsLog (undone s R) s head tail × IsLinked R s head tail b

-- How many bytes of a log's block are wanted, from its first on: all, but of the tail's block only those in front of where an entry
-- ends at most that begins before the tail.
abbrev pub wanted : ℕ → ℕ → ℕ
wanted tail b = if b == tail / 4096 then min (tail % 4096 + longest_entry) 4096 else 4096
