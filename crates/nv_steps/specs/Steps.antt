-- What a call on one log makes of its inode.
use Rattle.std.specs.Prelude.{◌≡◌, ◌⊎◌, ℕ, ◌%◌, ◌<◌, List, length, Some}
use Rattle.nv_region.specs.Region.{Region}
use Rattle.nv_super.specs.Layout.{Layout}
use Rattle.nv_region.specs.Stops.{IsMixed}
use Rattle.nv_super.specs.declared.owners.Run.{Run}
use Rattle.nv_alloc.specs.FreeValue.{FreeLists}
use Rattle.nv_alloc.specs.Taking.{all_blocks, TakesSingly}
use Rattle.nv_entry.specs.declared.entry.Entry.{Entry}
use Rattle.nv_logpage.specs.Append.{end_of, needed}
use Rattle.nv_scan.specs.declared.piece.Row.{Row}
use Rattle.nv_mounted.specs.Held.{Held, Store}
use Rattle.nv_mounted.specs.Blocks.{KeepsFree}
use Rattle.nv_mounted.specs.Bytes.{byte_of}
use Rattle.nv_mounted.specs.Grows.{AreFree}
use Rattle.nv_mounted.specs.Mounted.{KeepsRow, ShowsSound}
use Rattle.nv_outcome.specs.Same.{SameRow}
use Rattle.nv_commit.specs.Extends.{CanExtend, ExtendWords, ShowsMoved, extended, with_log}
use Rattle.nv_tree.specs.declared.refusal.Refusal.{Refusal}
use Rattle.nv_tree.specs.declared.refusal.Refusal.TheVariants.{Memory, NoSpace, Stopped}
use Rattle.nv_steps.specs.Grown.{HasGrown}
use Rattle.nv_steps.specs.Taken.{SamePools, TakesEach}
use Rattle.nv_steps.specs.Slots.{slot_in}

-- The region shows what is held, with nothing wrong, and the row and the free lists are of it.
pub record ShowsRow (R : Region) (l : Layout) (held : Store) (h : Held) (row : Row) (free : FreeLists) : Type 0 where
  pub sound : ShowsSound R l held
  pub holds : held row.inode ≡ Some h
  pub told : KeepsRow l h row
  pub lists : KeepsFree l held free.pools

-- Then the log has grown by these entries, over free blocks that are taken one by one from these pools by a CPU: the region is
-- sound, the row and the free lists are of what is held, and each byte that a file had is where it was.
pub record LogFollows (R S : Region) (l : Layout) (held : Store) (h : Held) (entries : List Entry) (pools : List (List Run)) (cpu : ℕ) (old new : Row) (free : FreeLists) : Type 0 where
  pub fresh : List ℕ
  pub rest : List (List Run)
  pub taken : TakesSingly pools cpu fresh rest
  pub blocks : AreFree l held fresh
  pub count : length fresh ≡ needed (h.tail % 4096) entries
  pub sound : ShowsSound S l (with_log held old.inode h entries fresh)
  pub told : KeepsRow l (extended h entries fresh) new
  pub inode : new.inode ≡ old.inode
  pub lists : KeepsFree l (with_log held old.inode h entries fresh) free.pools
  pub bytes : (i : ℕ) (g : Held) → held i ≡ Some g → (x : ℕ) → byte_of S l g x ≡ byte_of R l g x

-- Entries were written behind the log of a row, over blocks that a CPU took for them one by one, and the row has its new tail
-- and its new pages.
pub record AppendsLog (R S : Region) (l : Layout) (free after : FreeLists) (cpu : ℕ) (old new : Row) (entries : List Entry) : Type 0 where
  pub fresh : List ℕ
  pub taken : TakesEach free cpu fresh after
  pub count : length fresh ≡ needed (old.tail % 4096) entries
  pub row : HasGrown old fresh (end_of fresh 0 old.tail entries) new
  pub moved : (held : Store) (h : Held) → CanExtend R l held old.inode h (slot_in l old.inode) old.tail entries fresh → ShowsMoved R l (with_log held old.inode h entries fresh) S
  pub mixed : IsMixed R (ExtendWords (slot_in l old.inode) old.tail entries fresh) S

-- why a step is refused that needs so many blocks of these free lists
abbrev pub RefusesStep : Refusal → ℕ → FreeLists → Type 0
RefusesStep e count free = (e ≡ Memory) ⊎ ((e ≡ Stopped) ⊎ ((e ≡ NoSpace) × (all_blocks free.pools < count)))

-- a step that was refused has changed nothing
pub record LeavesStep {P : Type 0} (old new : P) (before after : FreeLists) (had has' : Row) : Type 0 where
  pub memory : new ≡ old
  pub free : SamePools before after
  pub row : SameRow had has'
