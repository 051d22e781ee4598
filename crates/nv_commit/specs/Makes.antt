-- An inode that comes together with the entries that name it.
use Rattle.std.specs.Prelude.{◌≡◌, ◌⊎◌, ℕ, ◌+◌, ◌*◌, ◌%◌, ◌<◌, ◌≤◌, [], ◌∷◌, length, Some, None}
use Rattle.std.specs.List.{Contains}
use Rattle.nv_region.specs.Region.{Region, size}
use Rattle.nv_region.specs.Stops.{Choices, IsMixed}
use Rattle.nv_region.specs.Stored.{Within}
use Rattle.nv_super.specs.Kind.{kind_number}
use Rattle.nv_super.specs.Layout.{Layout, slot_of}
use Rattle.nv_inode.specs.declared.slot.Slot.{Slot}
use Rattle.nv_inode.specs.Slot.{with_slot}
use Rattle.nv_journal.specs.Undo.{journal}
use Rattle.nv_journal.specs.Recorded.{Changes}
use Rattle.nv_logpage.specs.Append.{AppendWords, CanAppend, appended, end_of, needed}
use Rattle.nv_mounted.specs.Held.{Held, Store, with_inode}
use Rattle.nv_mounted.specs.Blocks.{IsUnowned}
use Rattle.nv_mounted.specs.Appended.{Appends}
use Rattle.nv_commit.specs.declared.together.Extension.{Extension}
use Rattle.nv_commit.specs.declared.making.NewInode.{NewInode}
use Rattle.nv_commit.specs.Extends.{CanExtend, with_log}
use Rattle.nv_commit.specs.Together.{UndoneShows}

-- where the log of a new inode begins
abbrev pub head_of : NewInode → ℕ
head_of n = 4096 * n.page

-- where it ends
abbrev pub tail_of : NewInode → ℕ
tail_of n = end_of [] 0 (head_of n) n.entries.now

-- the words of its slot but for the valid word, with this tail
abbrev pub slot_with : NewInode → ℕ → Slot
slot_with n tail = record { valid = 0; kind = kind_number n.kind; head = head_of n; tail = tail; created = n.created }

-- what is held of it
abbrev pub begun : NewInode → Held
begun n = record { kind = n.kind; head = head_of n; tail = tail_of n; created = n.created; entries = appended [] 0 (head_of n) n.entries.now; pages = n.page ∷ [] }

-- What is owed where an inode is made by a CPU's journal: its page can have the entries, its slot is a whole one within the
-- region, and both stand behind the journal.
pub record CanBegin (R : Region) (cpu : ℕ) (n : NewInode) : Type 0 where
  pub append : CanAppend R (head_of n) n.entries.now []
  pub whole : n.slot % 8 ≡ 0
  pub inside : n.slot + 40 ≤ size R
  pub slot_behind : journal cpu + 4096 ≤ n.slot
  pub page_behind : journal cpu + 4096 ≤ head_of n

-- A sound region shows a directory that can have these behind its log's tail. No inode has the new one's slot, which is of this
-- number, and its page is a free block, none of the directory's, on which its entries fit. The CPU is one of the region's.
pub record CanMake (R : Region) (l : Layout) (held : Store) (cpu j : ℕ) (n : NewInode) (i : ℕ) (h : Held) (x : Extension) : Type 0 where
  pub journals : cpu < l.sup.cpus
  pub parent : CanExtend R l held i h x.slot x.tail x.entries.now x.fresh.now
  pub at : slot_of l j ≡ Some n.slot
  pub unused : held j ≡ None
  pub page : IsUnowned l held n.page
  pub apart : Contains x.fresh.now n.page → ⊥
  pub fits : needed 0 n.entries.now ≡ 0
  pub some : 0 < length n.entries.now

-- what is held once the inode is there and the directory's log has grown
abbrev pub with_made : Store → ℕ → NewInode → ℕ → Held → Extension → Store
with_made held j n i h x = with_log (with_inode held j (Some (begun n))) i h x.entries.now x.fresh.now

-- rolled back, the region shows what was held, or that with the new inode and the log grown
abbrev pub BeforeOrMade : Layout → Store → ℕ → NewInode → ℕ → Held → Extension → Region → Type 0
BeforeOrMade l held j n i h x left = UndoneShows l held left ⊎ UndoneShows l (with_made held j n i h x) left

-- any word of the new inode's page, or of its slot behind the valid word
abbrev pub BeginWords : NewInode → Choices
BeginWords n k v = AppendWords (head_of n) [] k v ⊎ Within (n.slot + 8) 32 k v

-- and what the directory's append may store
abbrev pub PrepareWords : NewInode → Extension → Choices
PrepareWords n x k v = BeginWords n k v ⊎ AppendWords x.tail x.fresh.now k v

-- and any word of the journal, 1 in the valid word, and the new tail in its word
abbrev pub MakeWords : ℕ → NewInode → Extension → Choices
MakeWords cpu n x k v = PrepareWords n x k v ⊎ Changes cpu n.slot 1 (x.slot + 24) (end_of x.fresh.now 0 x.tail x.entries.now) k v

-- From one region to the other the new log was written, then the entries behind the directory's tail, and then the slot
-- but for its valid word.
pub record Prepares (R S : Region) (n : NewInode) (x : Extension) (first last : ℕ) : Type 0 where
  pub logged : Region
  pub named : Region
  pub log : Appends R logged (head_of n) first n.entries.now []
  pub parent : Appends logged named x.tail last x.entries.now x.fresh.now
  pub slot : S ≡ with_slot named n.slot (slot_with n first)
  pub slot_alone : IsMixed named (Within (n.slot + 8) 32) S
  pub first_end : first ≡ tail_of n
  pub last_end : last ≡ end_of x.fresh.now 0 x.tail x.entries.now
