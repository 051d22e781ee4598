use Rattle.nv_alloc.proofs.GivenBack.{determined}
use Rattle.nv_alloc.proofs.laws.sets_determine_lists.Goals as goal

pub returns : goal.returns
returns c = determined
