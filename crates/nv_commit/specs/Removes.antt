-- An inode that goes together with the entries that say so.
use Rattle.std.specs.Prelude.{◌≡◌, ◌≢◌, ◌⊎◌, ℕ, ◌+◌, ◌%◌, ◌<◌, ◌≤◌, Some, None}
use Rattle.nv_region.specs.Region.{Region, size}
use Rattle.nv_region.specs.Stops.{Choices}
use Rattle.nv_super.specs.Layout.{Layout, slot_of}
use Rattle.nv_journal.specs.Undo.{journal}
use Rattle.nv_journal.specs.Recorded.{Changes}
use Rattle.nv_logpage.specs.Append.{AppendWords, end_of}
use Rattle.nv_mounted.specs.Held.{Held, Store, with_inode}
use Rattle.nv_commit.specs.declared.together.Extension.{Extension}
use Rattle.nv_commit.specs.Extends.{CanExtend, with_log}
use Rattle.nv_commit.specs.Together.{UndoneShows}

-- What is owed where a slot's valid word is cleared by a CPU's journal: it is a whole word of the region, behind the journal.
pub record CanClear (R : Region) (cpu slot : ℕ) : Type 0 where
  pub whole : slot % 8 ≡ 0
  pub inside : slot + 8 ≤ size R
  pub behind : journal cpu + 4096 ≤ slot

-- A sound region shows an inode that can have these behind its log's tail. Another has this slot, and the CPU is one of the
-- region's.
pub record CanRemove (R : Region) (l : Layout) (held : Store) (cpu i : ℕ) (h : Held) (x : Extension) (j slot : ℕ) : Type 0 where
  pub journals : cpu < l.sup.cpus
  pub parent : CanExtend R l held i h x.slot x.tail x.entries.now x.fresh.now
  pub at : slot_of l j ≡ Some slot
  pub differ : i ≢ j

-- what is held once the log has grown and the other inode is gone
abbrev pub with_removed : Store → ℕ → Held → Extension → ℕ → Store
with_removed held i h x j = with_inode (with_log held i h x.entries.now x.fresh.now) j None

-- rolled back, the region shows what was held, or that with the log grown and without the other inode
abbrev pub BeforeOrRemoved : Layout → Store → ℕ → Held → Extension → ℕ → Region → Type 0
BeforeOrRemoved l held i h x j left = UndoneShows l held left ⊎ UndoneShows l (with_removed held i h x j) left

-- what an append may store, any word of the journal, the new tail in its word, and 0 in the valid word
abbrev pub RemoveWords : ℕ → Extension → ℕ → Choices
RemoveWords cpu x slot k v = AppendWords x.tail x.fresh.now k v ⊎ Changes cpu (x.slot + 24) (end_of x.fresh.now 0 x.tail x.entries.now) slot 0 k v
