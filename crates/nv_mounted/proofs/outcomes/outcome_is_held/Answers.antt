use Rattle.nv_mounted.proofs.Closes as made
use Rattle.nv_mounted.proofs.outcomes.outcome_is_held.Goals as goal

pub returns : goal.returns
returns c = λ R s held o m is. (made.outcome_faultless m o is, made.outcome_kept m o is)
