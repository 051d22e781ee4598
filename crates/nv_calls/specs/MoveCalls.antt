-- What `rename` is about, what it writes, and what it makes of the rows.
use Rattle.std.specs.Prelude.{◌≡◌, ◌≢◌, ◌⊎◌, ℕ, ◌+◌, ◌%◌, nat_eq, Bool, false, if◌then◌else◌, List, set, slice_get, Some, None, Result, Ok, Err}
use Rattle.nv_region.specs.Region.{Region}
use Rattle.nv_alloc.specs.FreeValue.{FreeLists}
use Rattle.nv_entry.specs.declared.entry.Operation.TheVariants.{Add, Remove}
use Rattle.nv_logpage.specs.Append.{needed}
use Rattle.nv_scan.specs.declared.piece.Row.{Row}
use Rattle.nv_tree.specs.declared.refusal.Refusal.{Refusal}
use Rattle.nv_tree.specs.Path.{last_name}
use Rattle.nv_tree.specs.Tree.{Tree, walk}
use Rattle.nv_tree.specs.Refusals.{Path}
use Rattle.nv_steps.specs.MoreNames.{GetsName, GrowsTwo}
use Rattle.nv_calls.specs.NameCalls.{ended_row, name_blocks, row_blocks}
use Rattle.nv_steps.specs.NameEntries.{name_entries}
use Rattle.nv_steps.specs.Unlinks.{LosesName}
use Rattle.nv_steps.specs.Moves.{MovesWithin, move_entries}
use Rattle.nv_super.specs.Layout.{Layout}

-- ---- blocks

-- two walks end in the same directory
abbrev pub end_together : Result ℕ Refusal → Result ℕ Refusal → Bool
end_together (Ok d) (Ok e) = nat_eq d e
end_together (Ok d) (Err r) = false
end_together (Err r) (Ok e) = false
end_together (Err r) (Err o) = false

-- `rename` takes those of one log for both entries, or those of each of two directories for its own
abbrev pub rename_blocks : List Row → Tree → Path → Path → ℕ
rename_blocks rows t None q = 0
rename_blocks rows t (Some names) None = 0
rename_blocks rows t (Some names) (Some others) = if end_together (walk t 1 names) (walk t 1 others)
    then row_blocks (ended_row rows (walk t 1 names)) (move_entries 0 (last_name names) (last_name others) 0) else name_blocks rows t (Some names) + name_blocks rows t (Some others)

-- ---- rows

-- The first directory's row has a name less, and another's has one more for the same inode.
pub record MovesAcross (R S : Region) (l : Layout) (free after : FreeLists) (cpu : ℕ) (rows news : List Row) (place target end : ℕ) (name other : List ℕ) (time : ℕ) : Type 0 where
  pub from : Row
  pub to : Row
  pub moved : Row
  pub moved_at : slice_get rows target ≡ Some moved
  pub step : GrowsTwo R S l free after cpu rows news place from (name_entries Remove moved.inode name time) end to (name_entries Add moved.inode other time) (λ fresh now. LosesName from name
      moved.inode time fresh now) (λ more now. GetsName to other moved.inode time more now)

-- The inode got another name in place of the old one, in the directory whose row is at this place.
pub record MovesHere (R S : Region) (l : Layout) (free after : FreeLists) (cpu : ℕ) (rows news : List Row) (place target : ℕ) (name other : List ℕ) (time : ℕ) : Type 0 where
  pub row : Row
  pub now : Row
  pub moved : Row
  pub at : slice_get rows place ≡ Some row
  pub moved_at : slice_get rows target ≡ Some moved
  pub step : MovesWithin R S l free after cpu row now moved.inode name other time
  pub put : news ≡ set rows place now

-- within one directory, or from one to another
abbrev pub MovesAt : Region → Region → Layout → FreeLists → FreeLists → ℕ → List Row → List Row → ℕ → ℕ → ℕ → List ℕ → List ℕ → ℕ → Type 0
MovesAt R S l free after cpu rows news place target end name other time = ((place ≡ end) × MovesHere R S l free after cpu rows news place target name other time)
    ⊎ ((place ≢ end) × MovesAcross R S l free after cpu rows news place target end name other time)

-- how many blocks are needed by a directory's row, and another's, for an inode's other name
abbrev pub move_blocks : ℕ → ℕ → Row → Row → ℕ → List ℕ → List ℕ → ℕ → ℕ
move_blocks place end from to i name other time = if nat_eq place end then needed (from.tail % 4096) (move_entries i name other time) else needed (from.tail % 4096) (name_entries Remove i name time)
    + needed (to.tail % 4096) (name_entries Add i other time)
