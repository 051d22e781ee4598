-- The row of an inode that is asked for.
use Rattle.std.proofs.Common.{◌≡◌, ℕ, Some, sym, ap, is_some, List, subst}
use Rattle.nv_rows.specs.Rows.{IsInUse, row_of}
use Rattle.nv_rows.proofs.Places.{numbered}
use Rattle.nv_scan.specs.declared.piece.Row.{Row}
use Rattle.nv_tree.specs.Tree.{Tree}
use Rattle.nv_logs.specs.declared.inode.Inode.{Inode}
use Rattle.nv_logs.specs.declared.inode.Inode.TheVariants as inodes
use Rattle.nv_logs.specs.Asking.{IsAsked}

-- it is that of its number
pub asked_row : (t : Tree) (rows : List Row) (inode : Inode) (row : Row) → IsAsked t rows inode row → row_of rows row.inode ≡ Some row
asked_row t rows (inodes.Path path) row asked = asked.3
asked_row t rows (inodes.Number i) row asked = subst (λ (j : ℕ). row_of rows j ≡ Some row) (sym (numbered rows i row asked)) asked

-- it is in use
pub asked_used : (t : Tree) (rows : List Row) (inode : Inode) (row : Row) → IsAsked t rows inode row → IsInUse rows row.inode
asked_used t rows inode row asked = ap is_some (asked_row t rows inode row asked)
