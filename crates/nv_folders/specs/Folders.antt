-- The directories that one leads to by paths of at most 4,096 bytes, each with its path, in the order in which a list of all of
-- them shows them.
use Rattle.std.specs.Prelude.{◌≡◌, ℕ, ◌&&◌, true, false, nat_le, eqb, if◌then◌else◌, List, [], ◌∷◌, ◌++◌, length, flat_map, Some}
use Rattle.std.specs.List.{list_any}
use Rattle.nv_super.specs.Order.{Lists}
use Rattle.nv_tree.specs.Tree.{Tree, name_in}
use Rattle.nv_tree.specs.Refusals.{is_directory_at}
use Rattle.nv_folders.specs.declared.folder.Folder.{Folder}

-- a path, and the number that it leads to
abbrev pub Spot : Type 0
Spot = List ℕ × ℕ

-- the path of a directory, and its number
abbrev pub spot_of : Folder → Spot
spot_of folder = (folder.path.items, folder.inode)

-- the path of a name in a directory
abbrev pub path_in : List ℕ → List ℕ → List ℕ
path_in above name = above ++ 47 ∷ name

-- the directory in use that a name of a directory leads to, if its path has at most 4,096 bytes
abbrev pub spots_of : Tree → List ℕ → List ℕ × ℕ → List Spot
spots_of t above e = if is_directory_at t e.1 && nat_le (length (path_in above e.0)) 4096 then (path_in above e.0, e.1) ∷ [] else []

-- those that all its names lead to, rising by the bytes of the names
abbrev pub AreBelow : Tree → Spot → List Spot → Type 0
AreBelow t x below = (listed : List (List ℕ × ℕ)) × Lists (λ (e : List ℕ × ℕ). e.0) (λ e. name_in t x.1 e.0 ≡ Some e.1) listed × (below ≡ flat_map (spots_of t x.0) listed)

-- What is listed of directories that wait, where some stand already: a directory with all that it leads to comes before the one that
-- waits behind it, and each stands once.
pub data AreFolders (t : Tree) : List ℕ → List Spot → List Spot → Type 0 where
  none : {seen : List ℕ} → AreFolders t seen [] []
  again : {seen : List ℕ} {rest folders : List Spot} (x : Spot) → list_any (eqb x.1) seen ≡ true → AreFolders t seen rest folders → AreFolders t seen (x ∷ rest) folders
  first : {seen : List ℕ} {rest folders : List Spot} (x : Spot) (below : List Spot) → list_any (eqb x.1) seen ≡ false → AreBelow t x below
      → AreFolders t (seen ++ x.1 ∷ []) (below ++ rest) folders → AreFolders t seen (x ∷ rest) (x ∷ folders)

-- The directory of a path, and all directories that it leads to by names, each once, with their paths.
abbrev pub AreAllFolders : Tree → Spot → List Spot → Type 0
AreAllFolders t start folders = AreFolders t [] (start ∷ []) folders
