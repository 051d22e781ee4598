use Rattle.nv_tree.proofs.Effects.{created_found, created_paths, created_names}
use Rattle.nv_tree.proofs.laws.names_after_create.Goals as goal

pub returns : goal.returns
returns c = record { found = created_found; paths = created_paths; names = created_names }
