use Rattle.nv_mounted.proofs.Fronts as made
use Rattle.nv_mounted.proofs.stores.shown_behind.Goals as goal

pub returns : goal.returns
returns c = made.shown_same
