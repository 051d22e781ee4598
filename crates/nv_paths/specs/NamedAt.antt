-- The inode in use that the last name of a path stands for.
use Rattle.std.specs.Prelude.{◌≡◌, ℕ, List, slice_get, Some, Ok}
use Rattle.std.specs.Option.{option_map}
use Rattle.nv_super.specs.declared.kind.Kind.TheVariants.{Directory}
use Rattle.nv_names.specs.Names.{name_at}
use Rattle.nv_scan.specs.declared.piece.Row.{Row}
use Rattle.nv_tree.specs.Path.{last_name}
use Rattle.nv_tree.specs.Tree.{Tree, found, walk}

-- The last name stands in the directory whose row is at one place, for the inode whose row is at another.
pub record IsNamedAt (t : Tree) (rows : List Row) (names : List (List ℕ)) (place : ℕ) (name : List ℕ) (target : ℕ) : Type 0 where
  pub directory : (row : Row) → slice_get rows place ≡ Some row → (walk t 1 names ≡ Ok row.inode) × (row.kind ≡ Directory)
  pub name_is : name ≡ last_name names
  pub leads : (row : Row) → slice_get rows target ≡ Some row → found t names ≡ Some row.inode
  pub named : (row i : Row) → slice_get rows place ≡ Some row → slice_get rows target ≡ Some i → option_map (λ (x : ℕ × ℕ). x.0) (name_at row.names name) ≡ Some i.inode
