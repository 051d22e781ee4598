-- Where a new inode goes.
use Rattle.std.specs.Prelude.{◌≡◌, ℕ, ◌==◌, ◌&&◌, nat_lt, if◌then◌else◌, List, slice_get, Option, Some, None}
use Rattle.std.specs.Option.{option_and_then, option_map}
use Rattle.nv_super.specs.Layout.{Layout}
use Rattle.nv_inode.specs.Numbers.{next_number}
use Rattle.nv_names.specs.Names.{name_at}
use Rattle.nv_scan.specs.declared.piece.Row.{Row}
use Rattle.nv_rows.specs.Unused.{unused_number}
use Rattle.nv_graph.specs.Read.{row_of}
use Rattle.nv_paths.specs.Directories.{IsDirectoryAt}

-- The number, or in version 2 the first one behind the table of the CPU, if there is such a CPU. The table grows for it.
abbrev pub or_next : Layout → ℕ → Option ℕ → Option ℕ
or_next l cpu (Some i) = Some i
or_next l cpu None = if l.sup.version == 2 && nat_lt cpu l.sup.cpus then Some (next_number l cpu) else None

-- The number that a new inode of a CPU gets.
abbrev pub new_number : Layout → List Row → ℕ → Option ℕ
new_number l rows cpu = or_next l cpu (unused_number l rows cpu)

-- the name of a directory's row stands for no inode in use
abbrev pub IsNoneNamed : List Row → Row → List ℕ → Type 0
IsNoneNamed rows row name = option_and_then (row_of rows) (option_map (λ (x : ℕ × ℕ). x.0) (name_at row.names name)) ≡ None

-- The name stands for no inode in use in the directory whose row is at this place, and the number is the one that a new inode of the
-- CPU gets.
pub record IsSpot (rows : List Row) (l : Layout) (cpu d place : ℕ) (name : List ℕ) (number : ℕ) : Type 0 where
  pub directory : IsDirectoryAt rows d place
  pub absent : (row : Row) → slice_get rows place ≡ Some row → IsNoneNamed rows row name
  pub unused : new_number l rows cpu ≡ Some number
