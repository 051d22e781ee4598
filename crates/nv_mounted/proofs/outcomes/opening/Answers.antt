use Rattle.nv_mounted.proofs.Opens as made
use Rattle.nv_mounted.proofs.outcomes.opening.Goals as goal

pub returns : goal.returns
returns c = made.opening
