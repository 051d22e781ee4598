use Rattle.nv_graph.proofs.AfterCalls.{same_graph, touch_graph}
use Rattle.nv_graph.proofs.steps.touch_leaves_none.Goals as goal

pub returns-clause-same : goal.returns-clause-same
returns-clause-same c = λ R S l g f same. record { graph = same_graph f.graph same; none = f.none }

pub returns-clause-touched : goal.returns-clause-touched
returns-clause-touched c = λ R S l g i f s. record { graph = touch_graph f.graph i s; none = f.none }
