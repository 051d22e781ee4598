-- The graph of a tree: its inodes and names, without bytes and times.
use Rattle.std.specs.Prelude.{◌≡◌, ℕ, List, Some, None}
use Rattle.std.specs.Option.{option_map}
use Rattle.nv_tree.specs.Tree as trees
use Rattle.nv_tree.specs.Tree.{Tree, name_in}
use Rattle.nv_tree.specs.Refusals.{World}
use Rattle.nv_graph.specs.Graph.{Node, Graph, NoCrossFaults}

-- the kind and the link count of an inode
abbrev pub node_of : trees.Node → Node
node_of a = record { kind = a.kind; links = a.links }

-- the graph of a tree
abbrev pub tree_graph : Tree → Graph
tree_graph t = record { node = λ i. option_map node_of (t i); name = name_in t }

-- no fault stands between the inodes of a tree
abbrev pub IsFaultless : Tree → Type 0
IsFaultless t = NoCrossFaults (tree_graph t)

-- the number that a new inode of the CPU gets isn't in use
abbrev pub IsUnused : World → Tree → ℕ → Type 0
IsUnused w t cpu = (i : ℕ) → w.unused cpu ≡ Some i → t i ≡ None

-- an inode that counts no names has none
abbrev pub CountsNames : Tree → Type 0
CountsNames t = (i : ℕ) (a : trees.Node) → t i ≡ Some a → a.count ≡ 0 → (name : List ℕ) → a.names name ≡ None
