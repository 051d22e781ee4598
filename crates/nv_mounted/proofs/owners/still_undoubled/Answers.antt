use Rattle.nv_mounted.proofs.Owning as made
use Rattle.nv_mounted.proofs.owners.still_undoubled.Goals as goal

pub returns : goal.returns
returns c = made.still_undoubled
