-- The tree that a mounted file system shows.
use Rattle.std.specs.Prelude.{◌≡◌, ℕ, ◌/◌, List, length, Some}
use Rattle.std.specs.Option.{option_map}
use Rattle.nv_region.specs.Region.{Region}
use Rattle.nv_radix.specs.Pages.{block_at}
use Rattle.nv_names.specs.Names.{name_at}
use Rattle.nv_scan.specs.declared.piece.Row.{Row}
use Rattle.nv_mounted.specs.Bytes.{byte_in}
use Rattle.nv_tree.specs.Tree.{Node, Tree, found}
use Rattle.nv_graph.specs.Read.{row_of}

-- what a row shows
abbrev pub node_of : Region → Row → Node
node_of R row = record {
  kind = row.kind;
  mode = row.numbers.mode;
  owner = row.numbers.owner;
  group = row.numbers.group;
  size = row.numbers.size;
  links = row.numbers.links;
  time = row.numbers.time;
  count = length row.names.names;
  names = λ q. option_map (λ (x : ℕ × ℕ). x.0) (name_at row.names q);
  bytes = λ x. byte_in R (block_at row.index (x / 4096)) x;
}

-- the tree of rows
abbrev pub tree_of : Region → List Row → Tree
tree_of R rows i = option_map (node_of R) (row_of rows i)

-- The path leads to this inode, which shows this.
pub record LeadsTo (t : Tree) (names : List (List ℕ)) (i : ℕ) (node : Node) : Type 0 where
  pub leads : found t names ≡ Some i
  pub shows : t i ≡ Some node
