use Rattle.nv_restored.proofs.Formatted.{formatted_is_empty}
use Rattle.nv_restored.proofs.laws.formatted_trees_are_empty.Goals as goal

pub returns : goal.returns
returns c old read shown s time rows formatted are sound = formatted_is_empty old read s time formatted rows are shown sound
