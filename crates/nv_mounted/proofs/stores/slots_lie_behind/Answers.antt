use Rattle.nv_mounted.proofs.Fronts as made
use Rattle.nv_mounted.proofs.stores.slots_lie_behind.Goals as goal

pub returns : goal.returns
returns c = made.slot_front
