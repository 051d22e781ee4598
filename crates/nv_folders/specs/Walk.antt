-- What is known on the way through directories. No public clause cites this module.
use Rattle.std.specs.Prelude.{◌≡◌, ℕ, Bool, true, eqb, List, ◌++◌, map, reverse}
use Rattle.std.specs.List.{Contains, list_any}
use Rattle.nv_tree.specs.Tree.{Tree}
use Rattle.nv_tree.specs.Refusals.{is_directory_at}
use Rattle.nv_folders.specs.Folders.{AreFolders, Spot, spot_of}
use Rattle.nv_folders.specs.declared.folder.Folder.{Folder}

-- what waits on a stack, its top first
abbrev pub waiting : List Folder → List Spot
waiting pending = reverse (map spot_of pending)

-- the numbers of directories
abbrev pub numbers_in : List Folder → List ℕ
numbers_in folders = map (λ (folder : Folder). folder.inode) folders

-- All that wait are directories, and it is known of each number whether it is that of a directory that stands.
pub record IsReady (t : Tree) (folders pending : List Folder) (seen : ℕ → Bool) : Type 0 where
  pub directories : (x : Spot) → Contains (waiting pending) x → is_directory_at t x.1 ≡ true
  pub told : (i : ℕ) → seen i ≡ list_any (eqb i) (numbers_in folders)

-- From one state to a later one some directories came to stand, and what the later one leads to stands behind them.
pub record LeadsOn (t : Tree) (old new pending left : List Folder) : Type 0 where
  pub found : List Spot
  pub adds : map spot_of new ≡ map spot_of old ++ found
  pub goes : (rest : List Spot) → AreFolders t (numbers_in new) (waiting left) rest → AreFolders t (numbers_in old) (waiting pending) (found ++ rest)
