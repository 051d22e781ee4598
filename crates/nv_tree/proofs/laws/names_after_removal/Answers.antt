use Rattle.nv_tree.proofs.Effects.{unlinked_names, removed_names}
use Rattle.nv_tree.proofs.laws.names_after_removal.Goals as goal

pub returns : goal.returns
returns c = record { unlinked = unlinked_names; removed = removed_names }
