use Rattle.nv_graph.proofs.Root.{name_follows, node_follows}
use Rattle.nv_graph.proofs.faultless_calls.changes_follow.Goals as goal

pub returns-clause-name : goal.returns-clause-name
returns-clause-name c = name_follows

pub returns-clause-node : goal.returns-clause-node
returns-clause-node c = node_follows
