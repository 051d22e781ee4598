-- What `stat` shows of an inode.
use Rattle.std.specs.Prelude.{◌≡◌, ℕ, List, Some}
use Rattle.std.specs.Option.{option_map}
use Rattle.nv_tree.specs.Tree.{Node, Tree, found}
use Rattle.nv_tree.specs.declared.stat.Stat.{Stat}

-- the numbers of an inode, by what it shows
abbrev pub stat_of : ℕ → Node → Stat
stat_of i node = record { inode = i; kind = node.kind; mode = node.mode; owner = node.owner; group = node.group; size = node.size; links = node.links; time = node.time }

-- The path leads to this inode, and these are its numbers.
pub record IsStat (t : Tree) (names : List (List ℕ)) (s : Stat) : Type 0 where
  pub leads : found t names ≡ Some s.inode
  pub shows : option_map (stat_of s.inode) (t s.inode) ≡ Some s
