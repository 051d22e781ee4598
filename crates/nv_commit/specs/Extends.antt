-- A log that grows by entries, up to a tail that is moved behind them.
use Rattle.std.specs.Prelude.{◌≡◌, ◌⊎◌, ℕ, ◌+◌, ◌%◌, ◌<◌, ◌≤◌, List, length, take, Some}
use Rattle.nv_region.specs.Region.{Region}
use Rattle.nv_region.specs.Stops.{Choices, IsMixed, One}
use Rattle.nv_super.specs.Layout.{Layout, slot_of}
use Rattle.nv_entry.specs.declared.entry.Entry.{Entry}
use Rattle.nv_logpage.specs.Append.{AllDiffer, AppendWords, AreGiven, appended, end_of, needed}
use Rattle.nv_mounted.specs.Held.{Held, Store, Shows, with_inode}
use Rattle.nv_mounted.specs.Front.{SameFront}
use Rattle.nv_mounted.specs.Loose.{Loose}
use Rattle.nv_mounted.specs.Grows.{AreFree, grown}
use Rattle.nv_mounted.specs.Mounted.{ShowsSound}

-- What is held of an inode once these entries stand behind its log's tail, over as many of these pages as they take.
abbrev pub extended : Held → List Entry → List ℕ → Held
extended h entries fresh = grown h (end_of fresh 0 h.tail entries) (appended fresh 0 h.tail entries) (take (needed (h.tail % 4096) entries) fresh)

-- what is held once an inode's log has grown so
abbrev pub with_log : Store → ℕ → Held → List Entry → List ℕ → Store
with_log held i h entries fresh = with_inode held i (Some (extended h entries fresh))

-- The inode in use has this slot and this tail, and its log can have these entries, over free blocks.
pub record CanExtend (R : Region) (l : Layout) (held : Store) (i : ℕ) (h : Held) (slot tail : ℕ) (entries : List Entry) (fresh : List ℕ) : Type 0 where
  pub sound : ShowsSound R l held
  pub at : slot_of l i ≡ Some slot
  pub holds : held i ≡ Some h
  pub tail_is : h.tail ≡ tail
  pub free : AreFree l held fresh
  pub differ : AllDiffer fresh
  pub enough : needed (tail % 4096) entries ≤ length fresh
  pub given : AreGiven entries
  pub some : 0 < length entries

-- The region shows this, and has the superblock, the journals and the links of chains of another.
pub record ShowsMoved (R : Region) (l : Layout) (held : Store) (left : Region) : Type 0 where
  pub front : SameFront l R left
  pub shows : Shows left l held

-- the region shows what was held, or that with the grown log
abbrev pub BeforeOrExtended : Region → Layout → Store → ℕ → Held → List Entry → List ℕ → Region → Type 0
BeforeOrExtended R l held i h entries fresh left = ShowsSound left l held ⊎ ShowsMoved R l (with_log held i h entries fresh) left

-- what an append may store, and the new tail in its word
abbrev pub ExtendWords : ℕ → ℕ → List Entry → List ℕ → Choices
ExtendWords slot tail entries fresh i x = AppendWords tail fresh i x ⊎ One (slot + 24) (end_of fresh 0 tail entries) i x

-- Other values stand in loose words, or the tail is moved behind the entries, and nothing else was stored.
abbrev pub LooseOrExtended : Region → Layout → Store → ℕ → Held → ℕ → ℕ → List Entry → List ℕ → Region → Type 0
LooseOrExtended R l held i h slot tail entries fresh left = IsMixed R (Loose l held) left
    ⊎ (ShowsMoved R l (with_log held i h entries fresh) left × IsMixed R (ExtendWords slot tail entries fresh) left)
