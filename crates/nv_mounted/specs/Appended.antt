-- A log behind whose tail entries were written.
use Rattle.std.specs.Prelude.{◌≡◌, ◌⊎◌, ℕ, ◌%◌, ◌<◌, ◌≤◌, IsTrue, true, List, ◌++◌, length, take, None}
use Rattle.nv_region.specs.Region.{Region}
use Rattle.nv_region.specs.Stops.{IsMixed}
use Rattle.nv_super.specs.declared.superblock.Super.{Super}
use Rattle.nv_super.specs.Layout.{Layout, is_data_address, is_page_start}
use Rattle.nv_inode.specs.Slot.{is_right_log}
use Rattle.nv_entry.specs.declared.entry.Entry.{Entry}
use Rattle.nv_logpage.specs.declared.found.Placed.{Placed}
use Rattle.nv_logpage.specs.Reads.{Reads}
use Rattle.nv_logpage.specs.Append.{AppendWords, CanBePages, FreshFor, appended, needed}
use Rattle.nv_mounted.specs.Held.{Held, Store, Shows}
use Rattle.nv_mounted.specs.Slots.{HaveNoSlots}

-- From one region to the other the entries were written behind a tail, over these fresh pages, up to a new tail.
pub record Appends (R S : Region) (tail new : ℕ) (entries : List Entry) (fresh : List ℕ) : Type 0 where
  pub reads : (s : Super) (head : ℕ) (es : List Placed) (all : List ℕ) → IsTrue (is_page_start s head) → FreshFor s fresh all → Reads R s head tail es all None
      → Reads S s head new (es ++ appended fresh 0 tail entries) (all ++ take (needed (tail % 4096) entries) fresh) None
  pub right : (s : Super) (head : ℕ) → IsTrue (is_page_start s head) → IsTrue (is_data_address s tail) → CanBePages s fresh → (8 ≤ tail % 4096) ⊎ (0 < length entries)
      → IsTrue (is_right_log s head new)
  pub wrote : IsMixed R (AppendWords tail fresh) S

-- The region shows what is held, and behind the tail of one inode's log stand these entries, up to a new tail that is
-- right, over these pages. No slot stands in a page of this log, old or new.
pub record HasBehind (S : Region) (l : Layout) (held : Store) (h : Held) (new : ℕ) (more : List Placed) (fresh : List ℕ) : Type 0 where
  pub shows : Shows S l held
  pub right : is_right_log l.sup h.head new ≡ true
  pub reads : Reads S l.sup h.head new (h.entries ++ more) (h.pages ++ fresh) None
  pub clear : HaveNoSlots l (h.pages ++ fresh)
