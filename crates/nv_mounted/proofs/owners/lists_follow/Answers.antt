use Rattle.nv_mounted.proofs.ListsKept as made
use Rattle.nv_mounted.proofs.owners.lists_follow.Goals as goal

pub returns : goal.returns
returns c = made.lists_follow
