-- What a region holds of one inode.
use Rattle.std.specs.Prelude.{◌≡◌, ℕ, ◌+◌, true, false, List, [], Option, Some, None}
use Rattle.nv_region.specs.Region.{Region, word}
use Rattle.nv_super.specs.declared.kind.Kind.{Kind}
use Rattle.nv_super.specs.Layout.{Layout, slot_of}
use Rattle.nv_inode.specs.Slot.{kind_at, is_right_log}
use Rattle.nv_logpage.specs.declared.found.Placed.{Placed}
use Rattle.nv_logpage.specs.declared.found.LogEnd.{LogEnd}
use Rattle.nv_logpage.specs.Reads.{Reads}
use Rattle.nv_logpage.specs.Good.{good_entries}

-- what is read of an inode in use
pub record Log : Type 0 where
  pub kind : Kind
  pub entries : List Placed
  pub pages : List ℕ
  pub fault : Option LogEnd

-- the log of an inode whose head or tail isn't right
abbrev pub empty_log : Kind → Log
empty_log kind = record { kind = kind; entries = []; pages = []; fault = None }

-- Inode i is in use, by its slot at an address, and has this log. Where head or tail isn't right, it has no pages and no entries.
pub data IsInode (R : Region) (l : Layout) (i : ℕ) : ℕ → Log → Type 0 where
  right : {a : ℕ} {log : Log} → slot_of l i ≡ Some a → kind_at R a ≡ Some log.kind → is_right_log l.sup (word R (a + 16)) (word R (a + 24)) ≡ true
      → Reads R l.sup (word R (a + 16)) (word R (a + 24)) log.entries log.pages log.fault → IsInode R l i a log
  wrong : {a : ℕ} {kind : Kind} → slot_of l i ≡ Some a → kind_at R a ≡ Some kind → is_right_log l.sup (word R (a + 16)) (word R (a + 24)) ≡ false
      → IsInode R l i a (empty_log kind)

-- the inode is in use, at some address and with some log
abbrev pub IsInUse : Region → Layout → ℕ → Type 0
IsInUse R l i = (a : ℕ) × (log : Log) × IsInode R l i a log

-- the entries that count for the inode's state
abbrev pub good_of : Layout → Log → List Placed
good_of l log = good_entries l.sup log.kind log.entries
