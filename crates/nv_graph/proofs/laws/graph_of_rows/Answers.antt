use Rattle.nv_graph.proofs.Bridge.{no_faults, is_faultless}
use Rattle.nv_graph.proofs.OfRows.{graph_is, all_names}
use Rattle.nv_graph.proofs.laws.graph_of_rows.Goals as goal

pub returns-clause-graph : goal.returns-clause-graph
returns-clause-graph c = λ R l rows are. graph_is are

pub returns-clause-names : goal.returns-clause-names
returns-clause-names c = λ R l rows are. all_names are

pub returns-clause-faults : goal.returns-clause-faults
returns-clause-faults c = λ R l rows are. (no_faults (graph_is are), is_faultless (graph_is are) (all_names are))
