-- The pages that a log can do without.
use Rattle.std.specs.Prelude.{◌≡◌, ℕ, ◌+◌, ◌<◌, List, get_or, length, Option, Some, None}
use Rattle.nv_region.specs.Region.{Region}
use Rattle.nv_super.specs.declared.superblock.Super.{Super}
use Rattle.nv_super.specs.declared.kind.Kind.{Kind}
use Rattle.nv_super.specs.declared.faults.Fault.{Fault}
use Rattle.nv_radix.specs.Pages.{block_at}
use Rattle.nv_names.specs.Names.{name_at}
use Rattle.nv_logpage.specs.declared.found.Placed.{Placed}
use Rattle.nv_logpage.specs.Good.{good_entries}
use Rattle.nv_logpage.specs.Reads.{Reads}
use Rattle.nv_logpage.specs.Unlinked.{without_page}
use Rattle.nv_scan.specs.Faults.{IsEntryFault}
use Rattle.nv_scan.specs.Rows.{AreNumbers}
use Rattle.nv_scan.specs.State.{size_of, mode_of, owner_of, group_of, links_of, time_of, block_of, named}
use Rattle.nv_scan.specs.declared.piece.Row.{Row}

-- These good entries say the same of an inode as others: its numbers, the block of each page, and each name with its place.
pub record SameState (created : ℕ) (good new : List Placed) : Type 0 where
  pub size : size_of new ≡ size_of good
  pub mode : mode_of new ≡ mode_of good
  pub owner : owner_of new ≡ owner_of good
  pub group : group_of new ≡ group_of good
  pub links : links_of new ≡ links_of good
  pub time : time_of created new ≡ time_of created good
  pub blocks : (p : ℕ) → block_of new p ≡ block_of good p
  pub names : (q : List ℕ) → named new q ≡ named good q

-- Without the entries in this page a log says the same of its inode, and nothing is wrong with an entry.
pub record CanGo (s : Super) (kind : Kind) (i created : ℕ) (es : List Placed) (page : ℕ) : Type 0 where
  pub same : SameState created (good_entries s kind es) (good_entries s kind (without_page page es))
  pub clean : (f : Fault) → IsEntryFault s kind i (without_page page es) f → ⊥

-- The log can do without the page of this place, which isn't the last one.
pub record IsDead (s : Super) (kind : Kind) (i created : ℕ) (es : List Placed) (pages : List ℕ) (k : ℕ) : Type 0 where
  pub more : k + 1 < length pages
  pub can_go : CanGo s kind i created es (get_or pages k 0)
  pub open can_go use *

-- the first page that the log can do without, if there is one
abbrev pub IsFirstDead : Super → Kind → ℕ → ℕ → List Placed → List ℕ → Option ℕ → Type 0
IsFirstDead s kind i created es pages None = (k : ℕ) → IsDead s kind i created es pages k → ⊥
IsFirstDead s kind i created es pages (Some k) = IsDead s kind i created es pages k × ((j : ℕ) → j < k → IsDead s kind i created es pages j → ⊥)

-- The row is that of an inode whose log ends at its tail and has these entries.
pub record IsSaidBy (R : Region) (s : Super) (created : ℕ) (es : List Placed) (row : Row) : Type 0 where
  pub reads : Reads R s row.head row.tail es row.pages.items None
  pub numbers : AreNumbers created (good_entries s row.kind es) row.numbers
  pub index : (p : ℕ) → block_at row.index p ≡ block_of (good_entries s row.kind es) p
  pub names : (q : List ℕ) → name_at row.names q ≡ named (good_entries s row.kind es) q
