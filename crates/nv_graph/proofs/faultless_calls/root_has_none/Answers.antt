use Rattle.nv_graph.proofs.Root.{root_faultless, same_faultless}
use Rattle.nv_graph.proofs.faultless_calls.root_has_none.Goals as goal

pub returns-clause-root : goal.returns-clause-root
returns-clause-root c = root_faultless

pub returns-clause-same : goal.returns-clause-same
returns-clause-same c = same_faultless
