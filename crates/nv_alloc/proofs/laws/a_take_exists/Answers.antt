use Rattle.nv_alloc.proofs.TakeExists.{take_exists}
use Rattle.nv_alloc.proofs.laws.a_take_exists.Goals as goal

pub returns : goal.returns
returns c = take_exists
