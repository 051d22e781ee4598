use Rattle.nv_tree.proofs.Replaced.{refused_as_rename, replaced_one, replaced_unused}
use Rattle.nv_tree.proofs.replacing.replace_is_rename.Goals as goal

pub returns : goal.returns
returns c = record { unused = replaced_unused; refused = refused_as_rename; one = replaced_one }
