-- What `list` answers.
use Rattle.std.specs.Prelude.{◌≡◌, ℕ, List, Some}
use Rattle.nv_super.specs.Order.{Lists}
use Rattle.nv_names.specs.declared.named.Named.{Named}
use Rattle.nv_tree.specs.Tree.{Tree, found, name_in}

-- a line of a listing as its name and inode
abbrev pub name_and_inode : Named → List ℕ × ℕ
name_and_inode line = (line.name.now, line.inode)

-- The names in the inode that the path leads to, each once, rising by bytes, with the inodes that they stand for. That it is a
-- directory is asked by the tests of `list`.
pub record ListsNamesIn (t : Tree) (names : List (List ℕ)) (lines : List (List ℕ × ℕ)) : Type 0 where
  pub directory : ℕ
  pub leads : found t names ≡ Some directory
  pub lists : Lists (λ (x : List ℕ × ℕ). x.0) (λ x. name_in t directory x.0 ≡ Some x.1) lines
