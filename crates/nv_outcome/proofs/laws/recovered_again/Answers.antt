use Rattle.nv_outcome.proofs.Again.{shows_again}
use Rattle.nv_outcome.proofs.laws.recovered_again.Goals as goal

pub returns : goal.returns
returns c = shows_again
