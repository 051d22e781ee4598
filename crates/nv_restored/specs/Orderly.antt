-- Which trees an archive gives back, and where it is unpacked.
use Rattle.std.specs.Prelude.{◌≡◌, ◌≢◌, ℕ, ◌<◌, List, Some, None}
use Rattle.nv_super.specs.declared.kind.Kind.TheVariants.{Directory}
use Rattle.nv_tree.specs.Path.{IsPathName}
use Rattle.nv_tree.specs.Tree.{Node, Tree, name_in}

-- Its root is a directory that has no name. Each other directory has one at most. A path can say each name, and a mode has twelve
-- bits.
pub record IsOrderly (t : Tree) : Type 0 where
  pub root : (node : Node) × (t 1 ≡ Some node) × (node.kind ≡ Directory)
  pub top : (d : ℕ) (name : List ℕ) → name_in t d name ≢ Some 1
  pub single : (d e i : ℕ) (name other : List ℕ) (node : Node) → t i ≡ Some node → node.kind ≡ Directory
      → name_in t d name ≡ Some i → name_in t e other ≡ Some i → (d ≡ e) × (name ≡ other)
  pub names : (d i : ℕ) (name : List ℕ) → name_in t d name ≡ Some i → IsPathName name
  pub modes : (i : ℕ) (node : Node) → t i ≡ Some node → node.mode < 4096

-- Only the root is there, and it has no names.
pub record IsEmpty (t : Tree) : Type 0 where
  pub root : (node : Node) × (t 1 ≡ Some node) × (node.kind ≡ Directory) × ((name : List ℕ) → node.names name ≡ None)
  pub alone : (i : ℕ) → i ≢ 1 → t i ≡ None
