use Rattle.nv_mounted.proofs.Growing as made
use Rattle.nv_mounted.proofs.owners.grown_log_owns.Goals as goal

pub returns : goal.returns
returns c = λ l held i h new fresh is pages free file. made.grown_owns l held i h new is fresh pages free file
