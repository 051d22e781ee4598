use Rattle.nv_mounted.proofs.ListsKept as made
use Rattle.nv_mounted.proofs.owners.lists_change.Goals as goal

pub returns : goal.returns
returns c = made.lists_change
