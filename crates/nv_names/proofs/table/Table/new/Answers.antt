use Rattle.nv_names.proofs.Calls.{none_beside}
use Rattle.nv_names.proofs.table.Table.new.Goals as goal

pub invariant_of-result : goal.invariant_of-result
invariant_of-result c = none_beside _ _ c.new-2.ensures.items
