use Rattle.nv_claimcore.proofs.Lists.{every_list}
use Rattle.nv_claimcore.proofs.laws.every_list_is_legal.Goals as goal

pub returns : goal.returns
returns c = every_list
