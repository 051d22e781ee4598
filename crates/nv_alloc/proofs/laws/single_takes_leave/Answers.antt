use Rattle.nv_alloc.proofs.Singly.{single_takes_leave}
use Rattle.nv_alloc.proofs.laws.single_takes_leave.Goals as goal

pub returns : goal.returns
returns c = single_takes_leave
