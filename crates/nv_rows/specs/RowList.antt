-- What a contract sees of `Rows`.
use Rattle.std.specs.Prelude.{◌≡◌, ℕ, ◌+◌, ◌≤◌, List, get_or}
use Rattle.nv_super.specs.declared.superblock.Super.{Super}
use Rattle.nv_super.specs.Layout.{Layout}
use Rattle.nv_inode.specs.Numbers.{sizes_of}
use Rattle.nv_scan.specs.declared.piece.Row.{Row}

-- the rows, rising by number, how many more take no memory, the superblock of the file system, how many numbers the table of
-- each CPU has, and how many it can have before that takes memory
pub record RowList : Type 0 where
  pub items : List Row
  pub room : ℕ
  pub sup : Super
  pub sizes : List ℕ
  pub space : List ℕ

-- The table of a CPU can have the numbers of a block more without memory.
abbrev pub HasSpace : RowList → ℕ → Type 0
HasSpace rows cpu = get_or rows.sizes cpu 0 + 31 ≤ get_or rows.space cpu 0

-- The numbers that the rows can have are those of a layout.
pub record HasNumbersOf (l : Layout) (rows : RowList) : Type 0 where
  pub sup : rows.sup ≡ l.sup
  pub sizes : rows.sizes ≡ sizes_of l
