use Rattle.nv_outcome.proofs.OnlyOne.{same_outcome}
use Rattle.nv_outcome.proofs.laws.one_outcome.Goals as goal

pub returns : goal.returns
returns c = same_outcome
