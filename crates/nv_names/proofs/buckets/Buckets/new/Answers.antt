use Rattle.nv_names.proofs.Choosing.{no_names}
use Rattle.nv_names.proofs.buckets.Buckets.new.Goals as goal

pub invariant_of-result : goal.invariant_of-result
invariant_of-result c = no_names _ _ c.new.ensures c.new-2.ensures.items
