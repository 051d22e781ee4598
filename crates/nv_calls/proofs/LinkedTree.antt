-- The tree once a file has a name more: the tree machine's.
use Rattle.std.proofs.Common.{◌≡◌, ℕ, ◌/◌, List, length, ap, ◌∙◌, Option, Some}
use Rattle.std.specs.Option.{option_map, option_map_or}
use Rattle.nv_region.specs.Region.{Region}
use Rattle.nv_radix.specs.Pages.{block_at}
use Rattle.nv_scan.specs.declared.numbers.Numbers.{Numbers}
use Rattle.nv_scan.specs.declared.piece.Row.{Row}
use Rattle.nv_graph.specs.Read.{row_of}
use Rattle.nv_mounted.specs.Bytes.{byte_in}
use Rattle.nv_tree.specs.Tree.{Node, SameNode}
use Rattle.nv_tree.specs.Calls.{links_at, with_links}
use Rattle.nv_steps.specs.MoreNames.{HasCounted}
use Rattle.nv_paths.specs.Seen.{node_of, tree_of}

-- The file shows its new count.
pub counted_node : (R S : Region) {row now : Row} (fresh : List ℕ) (end links time : ℕ) → HasCounted row fresh end links time now → length now.names.names ≡ length row.names.names
    → ((x : ℕ) → byte_in S (block_at row.index (x / 4096)) x ≡ byte_in R (block_at row.index (x / 4096)) x) → SameNode (node_of S now) (with_links links time (node_of R row))
counted_node R S {row} {now} fresh end links time has count bytes = record {
  kind = has.kind;
  mode = ap (λ (n : Numbers). n.mode) has.numbers;
  owner = ap (λ (n : Numbers). n.owner) has.numbers;
  group = ap (λ (n : Numbers). n.group) has.numbers;
  size = ap (λ (n : Numbers). n.size) has.numbers;
  links = ap (λ (n : Numbers). n.links) has.numbers;
  time = ap (λ (n : Numbers). n.time) has.numbers;
  count = count;
  names = λ q. ap (λ (o : Option (ℕ × ℕ)). option_map (λ (y : ℕ × ℕ). y.0) o) (has.names q);
  bytes = λ x below. ap (λ (o : Option ℕ). byte_in S o x) (has.index (x / 4096)) ∙ bytes x;
}

-- the count that the tree machine has is the row's
pub links_told : (R : Region) (rows : List Row) (row : Row) → row_of rows row.inode ≡ Some row → links_at (tree_of R rows) row.inode ≡ row.numbers.links
links_told R rows row own = ap (λ (o : Option Row). option_map_or (λ (n : Node). n.links) (option_map (node_of R) o) 0) own
