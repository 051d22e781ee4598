-- Link counts of files.
use Rattle.std.specs.Prelude.{◌≡◌, ℕ, List, [], ◌∷◌, ◌++◌, length, Some, slice_get}
use Rattle.std.specs.List.{Contains}
use Rattle.nv_super.specs.declared.kind.Kind.TheVariants.{File}
use Rattle.nv_tree.specs.Path.{IsPath}
use Rattle.nv_tree.specs.Tree.{Node, Tree, found, name_in}

-- no element stands twice
abbrev pub IsOnce : List (ℕ × List ℕ) → Type 0
IsOnce names = (j k : ℕ) (x : ℕ × List ℕ) → slice_get names j ≡ Some x → slice_get names k ≡ Some x → j ≡ k

-- the names of an inode, as directory and name, each once
pub record AreNamesOf (t : Tree) (i : ℕ) (names : List (ℕ × List ℕ)) : Type 0 where
  pub once : IsOnce names
  pub each : (x : ℕ × List ℕ) → Contains names x → name_in t x.0 x.1 ≡ Some i
  pub all : (x : ℕ × List ℕ) → name_in t x.0 x.1 ≡ Some i → Contains names x

-- the link count of each file is its number of names
abbrev pub LinksAreNames : Tree → Type 0
LinksAreNames t = (i : ℕ) (node : Node) → t i ≡ Some node → node.kind ≡ File → (names : List (ℕ × List ℕ)) × AreNamesOf t i names × (length names ≡ node.links)

-- Each name stands at the end of a path that a text says.
abbrev pub IsWithinReach : Tree → Type 0
IsWithinReach t = (d i : ℕ) (name : List ℕ) → name_in t d name ≡ Some i
    → (text : List ℕ) × (names : List (List ℕ)) × IsPath text (names ++ name ∷ []) × (found t names ≡ Some d) × (found t (names ++ name ∷ []) ≡ Some i)

-- where each path leads to a file, it has as many links in both trees
abbrev pub HasSameLinks : Tree → Tree → Type 0
HasSameLinks t u = (text : List ℕ) (names : List (List ℕ)) (i j : ℕ) (a b : Node) → IsPath text names → found t names ≡ Some i → found u names ≡ Some j
    → t i ≡ Some a → u j ≡ Some b → a.kind ≡ File → a.links ≡ b.links
