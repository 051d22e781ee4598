-- The graph that is read from a region, and the graph of its rows.
use Rattle.std.specs.Prelude.{◌≡◌, ℕ, List, Some}
use Rattle.std.specs.Option.{option_map, option_and_then}
use Rattle.nv_region.specs.Region.{Region}
use Rattle.nv_super.specs.Layout.{Layout}
use Rattle.nv_names.specs.Names.{name_at}
use Rattle.nv_scan.specs.State.{links_of}
use Rattle.nv_scan.specs.Inode.{Log, IsInode, IsInUse, good_of}
use Rattle.nv_scan.specs.declared.piece.Row.{Row}
pub use Rattle.nv_rows.specs.Rows.{row_of}
use Rattle.nv_outcome.specs.Outcome.{HasName, AreNamesOf}
use Rattle.nv_graph.specs.Graph.{Node, Graph, NoCrossFaults}

-- The graph has the inodes in use of a region, with their kinds and link counts, and their names.
pub record IsGraphOf (R : Region) (l : Layout) (g : Graph) : Type 0 where
  pub node : (i a : ℕ) (log : Log) → IsInode R l i a log → g.node i ≡ Some (record { kind = log.kind; links = links_of (good_of l log) })
  pub in_use : (i : ℕ) (n : Node) → g.node i ≡ Some n → IsInUse R l i
  pub name : (d : ℕ) (name : List ℕ) (i at : ℕ) → HasName R l d name i at → g.name d name ≡ Some i
  pub named : (d : ℕ) (name : List ℕ) (i : ℕ) → g.name d name ≡ Some i → (at : ℕ) × HasName R l d name i at

-- the region's graph, which has no faults
pub record HasFaultlessGraph (R : Region) (l : Layout) (g : Graph) : Type 0 where
  pub graph : IsGraphOf R l g
  pub none : NoCrossFaults g

-- each number has a list of its names
abbrev pub HasAllNames : Region → Layout → Type 0
HasAllNames R l = (i : ℕ) → (names : List (ℕ × List ℕ)) × AreNamesOf R l i names

-- the graph of rows
abbrev pub graph_of : List Row → Graph
graph_of rows = record {
  node = λ i. option_map (λ (r : Row). record { kind = r.kind; links = r.numbers.links }) (row_of rows i);
  name = λ d name. option_and_then (λ (r : Row). option_map (λ (x : ℕ × ℕ). x.0) (name_at r.names name)) (row_of rows d);
}
