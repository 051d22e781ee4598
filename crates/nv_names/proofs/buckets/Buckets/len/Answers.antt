use Rattle.nv_names.proofs.Choosing.{distinct_buckets}
use Rattle.nv_names.proofs.buckets.Buckets.len.Goals as goal

pub returns-clause-each_once : goal.returns-clause-each_once
returns-clause-each_once c = rw (← c.self.view_is) (distinct_buckets c.self.inside.one c.self.inside.many.items c.self.invariant.buckets)
