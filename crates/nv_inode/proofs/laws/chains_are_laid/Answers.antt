use Rattle.nv_inode.proofs.ReadChains.{region_laid}
use Rattle.nv_inode.proofs.laws.chains_are_laid.Goals as goal

pub returns : goal.returns
returns c = region_laid
