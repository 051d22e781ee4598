-- What `replace` is about: the inode that gets another name, and the one that has that name, if there is one.
use Rattle.std.specs.Prelude.{◌≡◌, ◌≢◌, ℕ, List, [], ◌∷◌, ◌++◌, slice_get, Option, Some, None}
use Rattle.std.specs.Option.{option_map}
use Rattle.nv_names.specs.Names.{name_at}
use Rattle.nv_scan.specs.declared.piece.Row.{Row}
use Rattle.nv_graph.specs.Read.{row_of}
use Rattle.nv_tree.specs.Tree.{Tree, found}
use Rattle.nv_tree.specs.Refusals.{Path, Tests, is_bad_name, is_into_itself, is_missing, walk_tests}
use Rattle.nv_tree.specs.Replace.{is_over_directory, is_over_file, is_over_names}
use Rattle.nv_paths.specs.MoveSpots.{IsMoveWay}
use Rattle.nv_paths.specs.Spots.{IsNoneNamed}

-- the tests of `replace` between those of every writing call and that for space
abbrev pub replace_spot_tests : Tree → Path → Path → Tests
replace_spot_tests t p q = is_bad_name p ∷ is_bad_name q ∷ walk_tests t p ++ walk_tests t q
    ++ is_missing t p ∷ is_into_itself t p q ∷ is_over_directory t p q ∷ is_over_file t p q ∷ is_over_names t p q ∷ []

-- The name of the directory at a place stands for an inode in use of the same kind as the one whose row is at another place, which
-- has no names where it is another inode; or for none.
pub record IsOver (rows : List Row) (end : ℕ) (other : List ℕ) (target : ℕ) (there : Option ℕ) : Type 0 where
  pub none : (row : Row) → slice_get rows end ≡ Some row → there ≡ None → IsNoneNamed rows row other
  pub named : (row : Row) (j : ℕ) → slice_get rows end ≡ Some row → there ≡ Some j → option_map (λ (x : ℕ × ℕ). x.0) (name_at row.names other) ≡ Some j
  pub alike : (moved had : Row) (j : ℕ) → slice_get rows target ≡ Some moved → there ≡ Some j → row_of rows j ≡ Some had → had.kind ≡ moved.kind
  pub bare : (moved had : Row) (j : ℕ) → slice_get rows target ≡ Some moved → there ≡ Some j → row_of rows j ≡ Some had → j ≢ moved.inode → (q : List ℕ) → name_at had.names q ≡ None

-- The way of a move, and what stands where it ends.
pub record IsReplaceSpot (t : Tree) (rows : List Row) (names others : List (List ℕ)) (place : ℕ) (name : List ℕ) (target end : ℕ) (other : List ℕ) (there : Option ℕ) : Type 0 where
  pub way : IsMoveWay t rows names others place name target end other
  pub leads : found t others ≡ there
  pub over : IsOver rows end other target there
