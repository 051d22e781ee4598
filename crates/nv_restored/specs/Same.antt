-- Two trees that are the same but for the numbers of their inodes.
use Rattle.std.specs.Prelude.{◌≡◌, ℕ, ◌<◌, List, Some}
use Rattle.nv_super.specs.declared.kind.Kind.TheVariants.{File}
use Rattle.nv_tree.specs.Path.{IsPath}
use Rattle.nv_tree.specs.Tree.{Node, Tree, found}

-- Two inodes show the same: kind, mode, owner, group and time, and files the same bytes. Names in a directory are told by the paths
-- that lead through it.
pub record ShowsSame (a b : Node) : Type 0 where
  pub kind : a.kind ≡ b.kind
  pub mode : a.mode ≡ b.mode
  pub owner : a.owner ≡ b.owner
  pub group : a.group ≡ b.group
  pub time : a.time ≡ b.time
  pub size : a.kind ≡ File → a.size ≡ b.size
  pub bytes : a.kind ≡ File → (x : ℕ) → x < a.size → a.bytes x ≡ b.bytes x

-- a path that a text says and that leads to an inode in the first tree leads to one in the second
abbrev pub LeadsIn : Tree → Tree → Type 0
LeadsIn t u = (text : List ℕ) (names : List (List ℕ)) (i : ℕ) → IsPath text names → found t names ≡ Some i → (j : ℕ) × (found u names ≡ Some j)

-- two paths that lead to one inode in the first tree lead to one in the second
abbrev pub JoinsIn : Tree → Tree → Type 0
JoinsIn t u = (text : List ℕ) (names : List (List ℕ)) (other : List ℕ) (others : List (List ℕ)) (i : ℕ) → IsPath text names → IsPath other others
    → found t names ≡ Some i → found t others ≡ Some i → found u names ≡ found u others

-- each path leads to inodes that show the same
abbrev pub ShowsIn : Tree → Tree → Type 0
ShowsIn t u = (text : List ℕ) (names : List (List ℕ)) (i j : ℕ) (a b : Node) → IsPath text names → found t names ≡ Some i → found u names ≡ Some j
    → t i ≡ Some a → u j ≡ Some b → ShowsSame a b

-- The trees are the same but for numbers: a path that leads to an inode in one of them does so in the other, to one that shows the
-- same, and two paths lead to one inode in one of them exactly where they do in the other.
pub record IsSameByPaths (t u : Tree) : Type 0 where
  pub leads : LeadsIn t u
  pub back : LeadsIn u t
  pub shows : ShowsIn t u
  pub joins : JoinsIn t u
  pub parts : JoinsIn u t

-- a path leads to each inode in use
abbrev pub IsReached : Tree → Type 0
IsReached u = (j : ℕ) (b : Node) → u j ≡ Some b → (text : List ℕ) × (names : List (List ℕ)) × IsPath text names × (found u names ≡ Some j)
