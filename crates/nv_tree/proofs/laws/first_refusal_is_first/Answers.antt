use Rattle.nv_tree.proofs.First.{first_some, first_none}
use Rattle.nv_tree.proofs.laws.first_refusal_is_first.Goals as goal

pub returns : goal.returns
returns c = record { some = first_some; none = first_none }
