use Rattle.nv_commit.proofs.BlocksOf.{begun_free, begun_owns}
use Rattle.nv_commit.proofs.owning.begun_log_owns.Goals as goal

pub returns-clause-owns : goal.returns-clause-owns
returns-clause-owns c = begun_owns

pub returns-clause-free : goal.returns-clause-free
returns-clause-free c = begun_free
