use Rattle.nv_super.proofs.Pools.{pools_cover}
use Rattle.nv_super.proofs.laws.pools_cover_the_data_blocks.Goals as goal

pub returns : goal.returns
returns c = pools_cover
