use Rattle.nv_outcome.proofs.Whole.{parts_outcome}
use Rattle.nv_outcome.proofs.laws.parts_make_the_outcome.Goals as goal

pub returns : goal.returns
returns c = λ R s pieces claims first second free doubled journal cross found is parts. parts_outcome is parts
