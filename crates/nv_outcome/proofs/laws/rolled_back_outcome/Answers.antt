use Rattle.nv_outcome.proofs.Again.{rolled_back, stays}
use Rattle.nv_outcome.proofs.laws.rolled_back_outcome.Goals as goal

pub returns : goal.returns
returns c = record { outcome = rolled_back; same = λ R o is. stays R o.sup is.sup }
