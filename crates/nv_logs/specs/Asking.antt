-- Which inode is asked for, and why it isn't shown.
use Rattle.std.specs.Prelude.{◌≡◌, ℕ, List, Some, None}
use Rattle.nv_scan.specs.declared.piece.Row.{Row}
use Rattle.nv_rows.specs.Rows.{row_of}
use Rattle.nv_tree.specs.Path.{IsPath, Says}
use Rattle.nv_tree.specs.Tree.{Tree, found}
use Rattle.nv_tree.specs.Refusals.{Path as SaidPath, first_refusal, stat_tests}
use Rattle.nv_tree.specs.declared.refusal.Refusal.{Refusal}
use Rattle.nv_tree.specs.declared.refusal.Refusal.TheVariants.{NotFound}
use Rattle.nv_logs.specs.declared.inode.Inode.{Inode}
use Rattle.nv_logs.specs.declared.inode.Inode.TheVariants.{Path, Number}

-- the row is that of the inode in use that the path leads to, or that has the number
abbrev pub IsAsked : Tree → List Row → Inode → Row → Type 0
IsAsked t rows (Path path) row = (names : List (List ℕ)) × IsPath path.items names × (found t names ≡ Some row.inode) × (row_of rows row.inode ≡ Some row)
IsAsked t rows (Number i) row = row_of rows i ≡ Some row

-- the first test of `stat` that holds of the path, or that no inode in use has the number
abbrev pub IsRefused : Tree → Inode → Refusal → Type 0
IsRefused t (Path path) refusal = (p : SaidPath) × Says path.items p × (first_refusal (stat_tests t p) ≡ Some refusal)
IsRefused t (Number i) refusal = (t i ≡ None) × (refusal ≡ NotFound)
