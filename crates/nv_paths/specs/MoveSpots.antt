-- What `rename` is about: the inode that gets another name, and the free name that it gets.
use Rattle.std.specs.Prelude.{◌≡◌, ℕ, List, [], ◌∷◌, ◌++◌, slice_get, Some}
use Rattle.std.specs.List.{Contains}
use Rattle.nv_super.specs.declared.kind.Kind.TheVariants.{Directory}
use Rattle.nv_scan.specs.declared.piece.Row.{Row}
use Rattle.nv_rows.specs.Rows.{IsInUse}
use Rattle.nv_tree.specs.Tree.{Tree, passed}
use Rattle.nv_tree.specs.Refusals.{Path, Tests, is_bad_name, is_into_itself, is_missing, is_there, walk_tests}
use Rattle.nv_paths.specs.NamedAt.{IsNamedAt}
use Rattle.nv_paths.specs.Places.{IsFreeName, IsInDirectory}

-- the tests of `rename` between those of every writing call and that for space
abbrev pub rename_spot_tests : Tree → Path → Path → Tests
rename_spot_tests t p q = is_bad_name p ∷ is_bad_name q ∷ walk_tests t p ++ walk_tests t q ++ is_missing t p ∷ is_into_itself t p q ∷ is_there t q ∷ []

-- those of any move, whether the new name is free or not
abbrev pub move_tests : Tree → Path → Path → Tests
move_tests t p q = is_bad_name p ∷ is_bad_name q ∷ walk_tests t p ++ walk_tests t q ++ is_missing t p ∷ is_into_itself t p q ∷ []

-- The directory that has the name, the inode that it stands for, and the directory that gets the other name are in use.
pub record MoveInUse (rows : List Row) (place inode end : ℕ) : Type 0 where
  pub from : IsInUse rows place
  pub target : IsInUse rows inode
  pub directory : IsInUse rows end

-- The first path's name stands for the inode whose row is at a place, the second ends in a directory, and the way to that doesn't
-- pass the inode where it is a directory.
pub record IsMoveWay (t : Tree) (rows : List Row) (names others : List (List ℕ)) (place : ℕ) (name : List ℕ) (target end : ℕ) (other : List ℕ) : Type 0 where
  pub from : IsNamedAt t rows names place name target
  pub to : IsInDirectory t rows others end other
  pub apart : (row : Row) → slice_get rows target ≡ Some row → row.kind ≡ Directory → Contains (passed t 1 others) row.inode → ⊥

-- The first path's name stands for the inode whose row is at a place, the second ends in a free name, and the way to that
-- doesn't pass the inode where it is a directory.
pub record IsMoveSpot (t : Tree) (rows : List Row) (names others : List (List ℕ)) (place : ℕ) (name : List ℕ) (target end : ℕ) (other : List ℕ) : Type 0 where
  pub from : IsNamedAt t rows names place name target
  pub spot : IsFreeName t rows others end other
  pub apart : (row : Row) → slice_get rows target ≡ Some row → row.kind ≡ Directory → Contains (passed t 1 others) row.inode → ⊥
