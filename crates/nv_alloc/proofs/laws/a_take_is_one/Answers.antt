use Rattle.nv_alloc.proofs.Singly.{take_is_one}
use Rattle.nv_alloc.proofs.laws.a_take_is_one.Goals as goal

pub returns : goal.returns
returns c = take_is_one
