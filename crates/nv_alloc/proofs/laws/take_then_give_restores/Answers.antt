use Rattle.nv_alloc.proofs.GivenBack.{restores}
use Rattle.nv_alloc.proofs.laws.take_then_give_restores.Goals as goal

pub returns : goal.returns
returns c = restores
