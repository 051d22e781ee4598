use Rattle.nv_inode.proofs.GrownChains.{chain_grown}
use Rattle.nv_inode.proofs.laws.chains_grow.Goals as goal

pub returns : goal.returns
returns c = chain_grown
