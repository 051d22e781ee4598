use Rattle.nv_tree.proofs.Effects.{linked_found, linked_paths, linked_names}
use Rattle.nv_tree.proofs.laws.names_after_link.Goals as goal

pub returns : goal.returns
returns c = record { found = linked_found; paths = linked_paths; names = linked_names }
