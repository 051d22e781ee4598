-- A page that was taken out of the log of a row.
use Rattle.std.specs.Prelude.{◌≡◌, ◌⊎◌, ℕ, List, Option, Some, None, get_or}
use Rattle.std.specs.List.{remove}
use Rattle.nv_region.specs.Region.{Region}
use Rattle.nv_super.specs.declared.superblock.Super.{Super}
use Rattle.nv_super.specs.declared.kind.Kind.{Kind}
use Rattle.nv_super.specs.Layout.{Layout}
use Rattle.nv_alloc.specs.FreeValue.{FreeLists}
use Rattle.nv_logpage.specs.declared.found.Placed.{Placed}
use Rattle.nv_logpage.specs.Unlinked.{head_without}
use Rattle.nv_scan.specs.declared.piece.Row.{Row}
use Rattle.nv_deadpages.specs.Dead.{IsFirstDead}
use Rattle.nv_mounted.specs.Held.{Held, Store, with_inode}
use Rattle.nv_mounted.specs.Blocks.{KeepsFree}
use Rattle.nv_mounted.specs.Bytes.{byte_of}
use Rattle.nv_mounted.specs.Cleaned.{cleaned}
use Rattle.nv_mounted.specs.Mounted.{KeepsRow, ShowsSound}
use Rattle.nv_outcome.specs.Same.{SameRow}
use Rattle.nv_tree.specs.declared.refusal.Refusal.{Refusal}
use Rattle.nv_tree.specs.declared.refusal.Refusal.TheVariants.{Memory, Stopped}
use Rattle.nv_steps.specs.Taken.{SamePools}

-- what is known of the first page that a log can do without: nothing, or its place
abbrev pub IsKnownDead : Super → Kind → ℕ → ℕ → List Placed → List ℕ → Option ℕ → Type 0
IsKnownDead s kind i created es pages None = Unit {0}
IsKnownDead s kind i created es pages (Some k) = IsFirstDead s kind i created es pages (Some k)

-- The row's log has no longer the page of this place, and there is nothing else new.
pub record HasLess (old : Row) (k : ℕ) (new : Row) : Type 0 where
  pub inode : new.inode ≡ old.inode
  pub kind : new.kind ≡ old.kind
  pub numbers : new.numbers ≡ old.numbers
  pub head : new.head ≡ head_without old.head old.pages.items k
  pub tail : new.tail ≡ old.tail
  pub pages : new.pages.items ≡ remove old.pages.items k
  pub index : new.index ≡ old.index
  pub names : new.names ≡ old.names

-- What the file or directory of the row is hasn't changed.
pub record KeepsFile (old new : Row) : Type 0 where
  pub inode : new.inode ≡ old.inode
  pub kind : new.kind ≡ old.kind
  pub numbers : new.numbers ≡ old.numbers
  pub index : new.index ≡ old.index
  pub names : new.names ≡ old.names

-- The page of this place went, which is the first that the log can do without: the region shows the log without it, its block is
-- free, the row and the free lists are of what is held, and each byte of each file is where it was.
pub record LosesPageAt (R S : Region) (l : Layout) (held : Store) (h : Held) (old new : Row) (free : FreeLists) (k b : ℕ) : Type 0 where
  pub block : b ≡ get_or h.pages k 0
  pub sound : ShowsSound S l (with_inode held old.inode (Some (cleaned h k)))
  pub told : KeepsRow l (cleaned h k) new
  pub inode : new.inode ≡ old.inode
  pub lists : KeepsFree l (with_inode held old.inode (Some (cleaned h k))) free.pools
  pub bytes : (i : ℕ) (g : Held) → held i ≡ Some g → (x : ℕ) → byte_of S l g x ≡ byte_of R l g x

-- Nothing went, since the log needs each of its pages.
pub record LosesNone (R S : Region) (old new : Row) (before after : FreeLists) : Type 0 where
  pub region : S ≡ R
  pub row : SameRow old new
  pub free : SamePools before after

-- the answer: the block of the page that went, or none
abbrev pub Cleans : Region → Region → Layout → Store → Held → Row → Row → FreeLists → FreeLists → Option ℕ → Type 0
Cleans R S l held h old new before after None = IsFirstDead l.sup h.kind old.inode h.created h.entries h.pages None × LosesNone R S old new before after
Cleans R S l held h old new before after (Some b) = (k : ℕ) × IsFirstDead l.sup h.kind old.inode h.created h.entries h.pages (Some k) × LosesPageAt R S l held h old new after k b

-- Why no page is taken out of a log: memory or the store refused it. No block is given back then.
pub record RefusesClean (e : Refusal) (before after : FreeLists) : Type 0 where
  pub why : (e ≡ Memory) ⊎ (e ≡ Stopped)
  pub same : SamePools before after
