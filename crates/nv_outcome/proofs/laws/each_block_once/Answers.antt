use Rattle.nv_outcome.proofs.Shared.{shares_all}
use Rattle.nv_outcome.proofs.laws.each_block_once.Goals as goal

pub returns : goal.returns
returns c = λ R o is none. shares_all is none
