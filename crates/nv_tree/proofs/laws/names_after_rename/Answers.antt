use Rattle.nv_tree.proofs.Effects.{renamed_names}
use Rattle.nv_tree.proofs.laws.names_after_rename.Goals as goal

pub returns : goal.returns
returns c = renamed_names
