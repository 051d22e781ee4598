use Rattle.nv_restored.proofs.Sound.{rows_are_orderly}
use Rattle.nv_restored.proofs.laws.shown_trees_are_orderly.Goals as goal

pub returns : goal.returns
returns c = rows_are_orderly
