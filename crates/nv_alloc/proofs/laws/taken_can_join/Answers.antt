use Rattle.nv_alloc.proofs.GivenBack.{can_join}
use Rattle.nv_alloc.proofs.laws.taken_can_join.Goals as goal

pub returns : goal.returns
returns c = can_join
