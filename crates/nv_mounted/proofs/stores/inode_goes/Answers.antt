use Rattle.nv_mounted.proofs.Commits as made
use Rattle.nv_mounted.proofs.stores.inode_goes.Goals as goal

pub returns : goal.returns
returns c = λ l held R S i a slots. made.removed l held R S i a (made.pages_clear slots)
