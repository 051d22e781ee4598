use Rattle.nv_mounted.proofs.Graphs as made
use Rattle.nv_mounted.proofs.names.graph_touched.Goals as goal

pub returns-clause-same : goal.returns-clause-same
returns-clause-same c = λ l held i h new is same. made.touched l held i h is new same

pub returns-clause-quiet : goal.returns-clause-quiet
returns-clause-quiet c = made.quiet_grown
