use Rattle.nv_mounted.proofs.Faultless as made
use Rattle.nv_mounted.proofs.entries.clean_more.Goals as goal

pub returns : goal.returns
returns c = made.clean_more
