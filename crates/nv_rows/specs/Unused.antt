-- The numbers of the tables, and which of them a new inode can get.
use Rattle.std.specs.Prelude.{◌≢◌, ℕ, ◌+◌, ◌*◌, ◌/◌, ◌%◌, ◌<◌, Bool, IsTrue, not, nat_eq, ◌&&◌, is_none, List, length, map, Option, slice_index}
use Rattle.std.specs.List.{find, range_with_len}
use Rattle.nv_super.specs.Layout.{Layout}
use Rattle.nv_inode.specs.Numbers.{has_slot, table_size}
use Rattle.nv_scan.specs.declared.piece.Row.{Row}
use Rattle.nv_rows.specs.Rows.{row_of}

-- The number is one of its CPU's table. The tables of so many CPUs have these sizes.
abbrev pub IsTableNumber : ℕ → List ℕ → ℕ → Type 0
IsTableNumber cpus sizes i = i / cpus < slice_index sizes (i % cpus)

-- numbers that have a slot, none of which stands twice
pub record HaveSlots (l : Layout) (numbers : List ℕ) : Type 0 where
  pub each : (k : ℕ) → k < length numbers → IsTrue (has_slot l (slice_index numbers k))
  pub once : (j k : ℕ) → j < k → k < length numbers → slice_index numbers j ≢ slice_index numbers k

-- ---- what a new inode can get

-- the first numbers of the inodes of a CPU, rising
abbrev pub first_numbers : ℕ → ℕ → ℕ → List ℕ
first_numbers cpus size cpu = map (λ k. k * cpus + cpu) (range_with_len 0 size)

-- those in its table
abbrev pub numbers_in_table : Layout → ℕ → List ℕ
numbers_in_table l cpu = first_numbers l.sup.cpus (table_size l cpu) cpu

-- a number that an inode can get
abbrev pub is_unused : List Row → ℕ → Bool
is_unused rows i = not (nat_eq i 0) && is_none (row_of rows i)

-- the lowest of the first numbers of a CPU
abbrev pub lowest_of : ℕ → ℕ → List Row → ℕ → Option ℕ
lowest_of cpus size rows cpu = find (is_unused rows) (first_numbers cpus size cpu)

-- the lowest of a CPU's table
abbrev pub unused_number : Layout → List Row → ℕ → Option ℕ
unused_number l rows cpu = lowest_of l.sup.cpus (table_size l cpu) rows cpu
