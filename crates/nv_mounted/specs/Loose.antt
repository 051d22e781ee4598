-- The words that nothing shown is read from, and slots that are ready but for their valid word.
use Rattle.std.specs.Prelude.{◌≡◌, ◌⊎◌, ℕ, ◌+◌, ◌*◌, ◌/◌, ◌<◌, ◌≤◌, true, Some, None}
use Rattle.nv_region.specs.Region.{Region, word}
use Rattle.nv_region.specs.Stops.{Choices}
use Rattle.nv_super.specs.Kind.{kind_number}
use Rattle.nv_super.specs.Layout.{Layout, slot_of}
use Rattle.nv_inode.specs.Slot.{is_right_log}
use Rattle.nv_logpage.specs.Reads.{Reads}
use Rattle.nv_mounted.specs.Held.{Held, Store}
use Rattle.nv_mounted.specs.Blocks.{IsUnowned}

-- the word stands behind the tail of a log, in the tail's page
abbrev pub IsBehindTail : Layout → Store → ℕ → Type 0
IsBehindTail l held at = (j : ℕ) × (h : Held) × (held j ≡ Some h) × (at / 4096 ≡ h.tail / 4096) × (h.tail ≤ at)

-- the word is one of an unused slot, and not its valid word
abbrev pub IsInUnused : Layout → Store → ℕ → Type 0
IsInUnused l held at = (j : ℕ) × (a : ℕ) × (slot_of l j ≡ Some a) × (held j ≡ None) × (a + 8 ≤ at) × (at < a + 128)

-- Any value in a word of a free block, behind a tail in its page, or of an unused slot but for its valid word.
abbrev pub Loose : Layout → Store → Choices
Loose l held i x = IsUnowned l held (8 * i / 4096) ⊎ (IsBehindTail l held (8 * i) ⊎ IsInUnused l held (8 * i))

-- A slot that is ready but for its valid word.
pub record IsReady (R : Region) (l : Layout) (a : ℕ) (h : Held) : Type 0 where
  pub kind : word R (a + 8) ≡ kind_number h.kind
  pub head : word R (a + 16) ≡ h.head
  pub tail : word R (a + 24) ≡ h.tail
  pub created : word R (a + 32) ≡ h.created
  pub right : is_right_log l.sup h.head h.tail ≡ true
  pub reads : Reads R l.sup h.head h.tail h.entries h.pages None
