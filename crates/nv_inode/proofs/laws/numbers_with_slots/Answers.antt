use Rattle.nv_inode.proofs.NumberEnds.{below_has_slot, fixed_size, has_slot_below}
use Rattle.nv_inode.proofs.laws.numbers_with_slots.Goals as goal

pub returns-clause-have : goal.returns-clause-have
returns-clause-have c = λ l i some. (has_slot_below l i, below_has_slot l i some)

pub returns-clause-fixed : goal.returns-clause-fixed
returns-clause-fixed c = fixed_size
