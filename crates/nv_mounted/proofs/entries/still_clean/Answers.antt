use Rattle.nv_mounted.proofs.Faultless as made
use Rattle.nv_mounted.proofs.entries.still_clean.Goals as goal

pub returns : goal.returns
returns c = made.still_clean
