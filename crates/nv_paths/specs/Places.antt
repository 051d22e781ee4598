-- Where a name comes: the directory that gets it, by the names of a path, and for `link` by its number.
use Rattle.std.specs.Prelude.{◌≡◌, ℕ, ◌<◌, List, slice_get, Some, Ok}
use Rattle.nv_super.specs.declared.kind.Kind.TheVariants.{File, Directory}
use Rattle.nv_super.specs.Layout.{most_links}
use Rattle.nv_scan.specs.declared.piece.Row.{Row}
use Rattle.nv_tree.specs.Path.{last_name}
use Rattle.nv_tree.specs.Tree.{Tree, walk}
use Rattle.nv_paths.specs.Directories.{IsDirectoryAt}
use Rattle.nv_paths.specs.Spots.{IsNoneNamed}

-- The names' last stands in the directory whose row is at this place.
pub record IsInDirectory (t : Tree) (rows : List Row) (names : List (List ℕ)) (place : ℕ) (name : List ℕ) : Type 0 where
  pub row : (row : Row) → slice_get rows place ≡ Some row → (walk t 1 names ≡ Ok row.inode) × (row.kind ≡ Directory)
  pub name_is : name ≡ last_name names

-- There it stands for no inode in use.
pub record IsFreeName (t : Tree) (rows : List Row) (names : List (List ℕ)) (place : ℕ) (name : List ℕ) : Type 0 where
  pub directory : IsInDirectory t rows names place name
  pub absent : (row : Row) → slice_get rows place ≡ Some row → IsNoneNamed rows row name

-- The row of directory d is at one place, and a name of it stands for no inode in use. At another place is the row of file i, which can
-- have a link more.
pub record IsLinkSpot (rows : List Row) (i d place : ℕ) (name : List ℕ) (target : ℕ) : Type 0 where
  pub directory : IsDirectoryAt rows d place
  pub absent : (row : Row) → slice_get rows place ≡ Some row → IsNoneNamed rows row name
  pub file : (row : Row) → slice_get rows target ≡ Some row → (row.inode ≡ i) × (row.kind ≡ File) × (row.numbers.links < most_links)
