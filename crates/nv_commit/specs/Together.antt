-- Two logs that grow together, by the journal of a CPU.
use Rattle.std.specs.Prelude.{◌≡◌, ◌≢◌, ◌⊎◌, ℕ, ◌+◌, ◌*◌, ◌/◌, ◌%◌, ◌<◌, ◌≤◌, List, ◌∷◌, length, get_or}
use Rattle.std.specs.List.{Contains}
use Rattle.nv_region.specs.Region.{Region, size}
use Rattle.nv_region.specs.Stops.{Choices}
use Rattle.nv_super.specs.Layout.{Layout}
use Rattle.nv_journal.specs.Undo.{journal, undone}
use Rattle.nv_journal.specs.Recorded.{Changes}
use Rattle.nv_journal.specs.Faults.{NoFault}
use Rattle.nv_logpage.specs.Append.{AppendWords, CanAppend, end_of}
use Rattle.nv_mounted.specs.Held.{Held, Store, Shows}
use Rattle.nv_mounted.specs.Mounted.{AreIdle, HasTables}
use Rattle.nv_mounted.specs.Appended.{Appends}
use Rattle.nv_commit.specs.declared.together.Extension.{Extension}
use Rattle.nv_commit.specs.Extends.{CanExtend, with_log}

-- each of these pages begins at this address or behind it
abbrev pub BeginFrom : List ℕ → ℕ → Type 0
BeginFrom pages low = (k : ℕ) → k < length pages → low ≤ 4096 * get_or pages k 0

-- What is owed where a log is extended by a CPU's journal: it can have the entries, its slot is a whole one within the
-- region, and the slot and all pages stand behind the journal.
pub record CanCommit (R : Region) (cpu : ℕ) (x : Extension) : Type 0 where
  pub append : CanAppend R x.tail x.entries.now x.fresh.now
  pub whole : x.slot % 8 ≡ 0
  pub inside : x.slot + 32 ≤ size R
  pub slot_behind : journal cpu + 4096 ≤ x.slot
  pub pages_behind : BeginFrom (x.tail / 4096 ∷ x.fresh.now) (journal cpu + 4096)

-- Two inodes of a sound region can have these behind their logs' tails, over pages that are not the same, and the CPU
-- is one of the region's.
pub record CanExtendTwo (R : Region) (l : Layout) (held : Store) (cpu i : ℕ) (h : Held) (x : Extension) (j : ℕ) (g : Held) (y : Extension) : Type 0 where
  pub journals : cpu < l.sup.cpus
  pub first : CanExtend R l held i h x.slot x.tail x.entries.now x.fresh.now
  pub second : CanExtend R l held j g y.slot y.tail y.entries.now y.fresh.now
  pub differ : i ≢ j
  pub apart : (b : ℕ) → Contains x.fresh.now b → Contains y.fresh.now b → ⊥

-- what is held once both logs have grown
abbrev pub with_logs : Store → ℕ → Held → Extension → ℕ → Held → Extension → Store
with_logs held i h x j g y = with_log (with_log held i h x.entries.now x.fresh.now) j g y.entries.now y.fresh.now

-- The region has these tables and nothing in its journals, and shows this.
pub record ShowsIdle (R : Region) (l : Layout) (held : Store) : Type 0 where
  pub tables : HasTables R l
  pub open tables use *
  pub idle : AreIdle l.sup.cpus R
  pub shows : Shows R l held

-- Nothing is wrong with the region's journals. Rolled back, it has these tables and shows this.
pub record UndoneShows (l : Layout) (held : Store) (left : Region) : Type 0 where
  pub tables : HasTables (undone l.sup left) l
  pub open tables use *
  pub shows : Shows (undone l.sup left) l held
  pub journals : NoFault l.sup left

-- rolled back, it shows what was held, or that with both logs grown
abbrev pub BeforeOrBoth : Layout → Store → ℕ → Held → Extension → ℕ → Held → Extension → Region → Type 0
BeforeOrBoth l held i h x j g y left = UndoneShows l held left ⊎ UndoneShows l (with_logs held i h x j g y) left

-- what two appends may store
abbrev pub BothWords : Extension → Extension → Choices
BothWords x y k v = AppendWords x.tail x.fresh.now k v ⊎ AppendWords y.tail y.fresh.now k v

-- and with both tails moved: any word of the journal, and the new tails in their words
abbrev pub TogetherWords : ℕ → Extension → Extension → Choices
TogetherWords cpu x y k v = BothWords x y k v ⊎ Changes cpu (x.slot + 24) (end_of x.fresh.now 0 x.tail x.entries.now) (y.slot + 24) (end_of y.fresh.now 0 y.tail y.entries.now) k v

-- From one region to the other the entries were written behind the first tail, and then those behind the second.
pub record AppendsBoth (R S : Region) (x y : Extension) (new last : ℕ) : Type 0 where
  pub between : Region
  pub first : Appends R between x.tail new x.entries.now x.fresh.now
  pub second : Appends between S y.tail last y.entries.now y.fresh.now
  pub first_end : new ≡ end_of x.fresh.now 0 x.tail x.entries.now
  pub second_end : last ≡ end_of y.fresh.now 0 y.tail y.entries.now
