use Rattle.nv_graph.proofs.Shown.{only_graph}
use Rattle.nv_graph.proofs.laws.one_graph.Goals as goal

pub returns : goal.returns
returns c = λ R l g h p q. only_graph p q
