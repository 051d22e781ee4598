use Rattle.std.proofs.Common.{◌∷◌, [], ℕ, List, refl}
use Rattle.nv_tree.specs.Tree.{Tree, found}
use Rattle.nv_tree.specs.Calls.{with_attributes, with_bytes, with_size, written}
use Rattle.nv_graph.specs.Calls.{SameGraph}
use Rattle.nv_graph.specs.Trees.{tree_graph}
use Rattle.nv_graph.proofs.TreeGraphs.{same_graph, some_graph}
use Rattle.nv_graph.proofs.trees.bytes_leave_the_graph.Goals as goal

pub returns-clause-write : goal.returns-clause-write
returns-clause-write c = λ t names offset bytes time. by t names offset bytes time where
  by : (t : Tree) (names : List (List ℕ)) (offset : ℕ) (bytes : List ℕ) (time : ℕ) → SameGraph (tree_graph t) (tree_graph (written names offset bytes time t))
  by t names offset [] time = same_graph (tree_graph t)
  by t names offset (b ∷ bytes) time = some_graph t (found t names) (with_bytes offset (b ∷ bytes) time) (λ a. refl) (λ a q. refl)

pub returns-clause-size : goal.returns-clause-size
returns-clause-size c = λ t names size time. some_graph t (found t names) (with_size size time) (λ a. refl) (λ a q. refl)

pub returns-clause-attributes : goal.returns-clause-attributes
returns-clause-attributes c = λ t names mode owner group time. some_graph t (found t names) (with_attributes mode owner group time) (λ a. refl) (λ a q. refl)
