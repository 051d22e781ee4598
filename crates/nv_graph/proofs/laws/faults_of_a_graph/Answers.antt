use Rattle.nv_graph.proofs.Bridge.{no_faults, is_faultless}
use Rattle.nv_graph.proofs.laws.faults_of_a_graph.Goals as goal

pub returns-clause-same : goal.returns-clause-same
returns-clause-same c = λ R l g is all. (no_faults is, is_faultless is all)

pub returns-clause-none : goal.returns-clause-none
returns-clause-none c = λ R l g is. no_faults is
