use Rattle.std.proofs.Common.{refl}
use Rattle.nv_super.specs.Classes.{class_names}
use Rattle.nv_super.proofs.classes.class_name.Goals as goal

pub name_in-requires-clause-table : goal.name_in-requires-clause-table
unfolding class_names
name_in-requires-clause-table c = refl
