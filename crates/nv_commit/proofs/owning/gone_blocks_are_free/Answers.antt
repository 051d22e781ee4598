use Rattle.nv_commit.proofs.BlocksOf.{gone_free}
use Rattle.nv_commit.proofs.owning.gone_blocks_are_free.Goals as goal

pub returns : goal.returns
returns c = gone_free
