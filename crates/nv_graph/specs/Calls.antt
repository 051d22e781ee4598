-- What each file call makes of the graph.
use Rattle.std.specs.Prelude.{◌≡◌, ℕ, ◌+◌, ◌-◌, Bool, ◌&&◌, nat_eq, if◌then◌else◌, List, Option, Some, None}
use Rattle.std.specs.Cmp.Lexicographic.{pointwise}
use Rattle.nv_super.specs.declared.kind.Kind.{Kind}
use Rattle.nv_super.specs.declared.kind.Kind.TheVariants.{Directory}
use Rattle.nv_graph.specs.Graph.{Node, Graph}

-- the graph with this at number i
abbrev pub with_node : Graph → ℕ → Option Node → Graph
with_node g i o = record { node = λ j. if nat_eq j i then o else g.node j; name = g.name }

-- whether this is the name of directory d
abbrev pub is_name : ℕ → List ℕ → ℕ → List ℕ → Bool
is_name d name e other = nat_eq e d && pointwise nat_eq other name

-- the graph with this at a name of directory d
abbrev pub with_name : Graph → ℕ → List ℕ → Option ℕ → Graph
with_name g d name o = record { node = g.node; name = λ e other. if is_name d name e other then o else g.name e other }

-- create and mkdir: a new node, which d names
abbrev pub made : Graph → Kind → ℕ → List ℕ → ℕ → Graph
made g kind d name i = with_name (with_node g i (Some (record { kind = kind; links = 1 }))) d name (Some i)

-- link: a name more of node i
abbrev pub linked : Graph → ℕ → List ℕ → ℕ → Node → Graph
linked g d name i n = with_name (with_node g i (Some (record { kind = n.kind; links = n.links + 1 }))) d name (Some i)

-- unlink, more names left: a name less of node i
abbrev pub unlinked : Graph → ℕ → List ℕ → ℕ → Node → Graph
unlinked g d name i n = with_name (with_node g i (Some (record { kind = n.kind; links = n.links - 1 }))) d name None

-- unlink of the last name, and rmdir: the name and the node gone
abbrev pub removed : Graph → ℕ → List ℕ → ℕ → Graph
removed g d name i = with_name (with_node g i None) d name None

-- rename: directory e names node i by a new name, where d did
abbrev pub renamed : Graph → ℕ → List ℕ → ℕ → List ℕ → ℕ → Graph
renamed g d name e new i = with_name (with_name g d name None) e new (Some i)

-- replace: the same where that name stood for node j, of which this is left
abbrev pub replaced : Graph → ℕ → List ℕ → ℕ → List ℕ → ℕ → ℕ → Option Node → Graph
replaced g d name e new i j left = with_node (renamed g d name e new i) j left

-- two graphs show the same of each number
pub record SameGraph (g h : Graph) : Type 0 where
  pub node : (i : ℕ) → h.node i ≡ g.node i
  pub name : (d : ℕ) (name : List ℕ) → h.name d name ≡ g.name d name

-- the graph of a formatted region: a root without names
abbrev pub root_alone : Graph
root_alone = record { node = λ i. if nat_eq i 1 then Some (record { kind = Directory; links = 1 }) else None; name = λ d name. None }
