use Rattle.nv_inode.proofs.GrownSlots.{slots_stay, slots_unused}
use Rattle.nv_inode.proofs.laws.linked_slots_are_unused.Goals as goal

pub returns-clause-stay : goal.returns-clause-stay
returns-clause-stay c = λ l c b i a below e. slots_stay l c b i below a e

pub returns-clause-unused : goal.returns-clause-unused
returns-clause-unused c = slots_unused
