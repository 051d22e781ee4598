use Rattle.nv_mounted.proofs.Commits as made
use Rattle.nv_mounted.proofs.stores.inode_comes.Goals as goal

pub returns : goal.returns
returns c = λ l held R S i a h slots. made.made l held R S i a h (made.pages_clear slots)
