-- The inodes and names of what is held, as a graph.
use Rattle.std.specs.Prelude.{ℕ, List, Option}
use Rattle.std.specs.Option.{option_map, option_and_then}
use Rattle.nv_super.specs.Layout.{Layout}
use Rattle.nv_scan.specs.State.{named, links_of}
use Rattle.nv_graph.specs.Graph.{Node, Graph}
use Rattle.nv_mounted.specs.Held.{Held, Store, good_in}

-- the kind and the link count of what is held
abbrev pub node_in : Layout → Held → Node
node_in l h = record { kind = h.kind; links = links_of (good_in l h) }

-- The inode that a name of a directory stands for. A file's log names none.
abbrev pub target_in : Layout → List ℕ → Held → Option ℕ
target_in l name h = option_map (λ (x : ℕ × ℕ). x.0) (named (good_in l h) name)

-- the graph of what is held
abbrev pub graph_in : Layout → Store → Graph
graph_in l held = record {
  node = λ i. option_map (node_in l) (held i);
  name = λ d name. option_and_then (target_in l name) (held d);
}
