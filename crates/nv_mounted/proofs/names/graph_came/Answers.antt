use Rattle.nv_mounted.proofs.Graphs as made
use Rattle.nv_mounted.proofs.names.graph_came.Goals as goal

pub returns-clause-node : goal.returns-clause-node
returns-clause-node c = λ l held i new out none. made.came l held i new out none

pub returns-clause-attributes : goal.returns-clause-attributes
returns-clause-attributes c = λ l held i new at e out one. made.attributes_came l held i new out at e one
