use Rattle.nv_super.proofs.Slots.{slots_apart}
use Rattle.nv_super.proofs.laws.slots_stand_apart.Goals as goal

pub returns : goal.returns
returns c = slots_apart
