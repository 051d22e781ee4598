use Rattle.nv_tree.proofs.Same.{same_itself}
use Rattle.nv_history.proofs.MadeTrees.{one_tree}
use Rattle.nv_history.proofs.laws.calls_make_one_tree.Goals as goal

pub returns : goal.returns
returns c = λ s calls t u v first second. one_tree first (same_itself t) second
