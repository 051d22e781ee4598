-- The graph of a tree after one inode was put or changed.
use Rattle.std.proofs.Common.{◌≡◌, ℕ, inl, inr, Bool, true, false, cond, nat_eq, List, Option, Some, None, refl, sym, ◌∙◌, subst}
use Rattle.std.specs.Option.{option_map}
use Rattle.nv_tree.specs.Tree as trees
use Rattle.nv_tree.specs.Tree.{Tree, name_in}
use Rattle.nv_tree.specs.Calls.{edit, on_some, put_node}
use Rattle.nv_tree.specs.Laws.{SetsName}
use Rattle.nv_tree.proofs.Named.{edit_leaves, edit_same}
use Rattle.nv_graph.specs.Graph.{Node, Graph}
use Rattle.nv_graph.specs.Calls.{SameGraph, with_name}
use Rattle.nv_graph.specs.Trees.{node_of, tree_graph}
use Rattle.nv_graph.proofs.Names.{renames, that_or}

-- what the graph has of an inode
abbrev pub shown : Option trees.Node → Option Node
shown o = option_map node_of o

through : (b : Bool) (x y : Option trees.Node) → shown (cond b x y) ≡ cond b (shown x) (shown y)
through true x y = refl
through false x y = refl

pub put_shown : (t : Tree) (i : ℕ) (o : Option trees.Node) (j : ℕ) → shown (put_node i o t j) ≡ cond (nat_eq j i) (shown o) (shown (t j))
put_shown t i o j = through (nat_eq j i) o (t j)

-- a change that leaves kind and links
pub edit_shown : (t : Tree) (d : ℕ) (f : trees.Node → trees.Node) → ((a : trees.Node) → node_of (f a) ≡ node_of a) → (j : ℕ) → shown (edit d f t j) ≡ shown (t j)
edit_shown t d f keeps j = edit_leaves node_of t d f keeps j

-- the same of all numbers: nobody sees it in the graph, if the names stay too
pub edit_graph : (t : Tree) (i : ℕ) (f : trees.Node → trees.Node) → ((a : trees.Node) → node_of (f a) ≡ node_of a) → ((a : trees.Node) (q : List ℕ) → (f a).names q ≡ a.names q) → SameGraph (tree_graph t) (tree_graph (edit i f t))
edit_graph t i f keeps names = record { node = edit_shown t i f keeps; name = edit_same t i f names }

pub same_graph : (g : Graph) → SameGraph g g
same_graph g = record { node = λ i. refl; name = λ d name. refl }

-- and of the inode that a path leads to, if it leads to one
pub some_graph : (t : Tree) (o : Option ℕ) (f : trees.Node → trees.Node) → ((a : trees.Node) → node_of (f a) ≡ node_of a) → ((a : trees.Node) (q : List ℕ) → (f a).names q ≡ a.names q) → SameGraph (tree_graph t) (tree_graph (on_some o (λ i. edit i f t) t))
some_graph t None f keeps names = same_graph (tree_graph t)
some_graph t (Some i) f keeps names = edit_graph t i f keeps names

-- One name was set in a tree whose names this graph has.
pub set_names : (t u : Tree) (f : Graph) (d : ℕ) (name : List ℕ) (o : Option ℕ) → SetsName t d name o u → ((e : ℕ) (q : List ℕ) → f.name e q ≡ name_in t e q) → (e : ℕ) (q : List ℕ) → name_in u e q ≡ (with_name f d name o).name e q
set_names t u f d name o sets names e q = elim (that_or d name (e, q)) [
  | inl w ↦ subst (λ (x : ℕ × List ℕ). name_in u x.0 x.1 ≡ (with_name f d name o).name x.0 x.1) (sym w) (sets.here ∙ sym (renames f d name o).here)
  | inr w ↦ sets.others e q (λ a b. w (λ k. (a k, b k))) ∙ sym (names e q) ∙ sym ((renames f d name o).other (e, q) w)
]

-- And it has the nodes that are now.
pub set_graph : (t u : Tree) (f : Graph) (d : ℕ) (name : List ℕ) (o : Option ℕ) → SetsName t d name o u → ((e : ℕ) (q : List ℕ) → f.name e q ≡ name_in t e q) → ((j : ℕ) → shown (u j) ≡ f.node j)
    → SameGraph (with_name f d name o) (tree_graph u)
set_graph t u f d name o sets names nodes = record { node = nodes; name = set_names t u f d name o sets names }
