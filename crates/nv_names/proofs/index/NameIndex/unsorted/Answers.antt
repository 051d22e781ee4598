use Rattle.nv_names.proofs.Listing.{held_once}
use Rattle.nv_names.proofs.index.NameIndex.unsorted.Goals as goal

pub returns-in-None-clause-each_once : goal.returns-in-None-clause-each_once
returns-in-None-clause-each_once c = rw (← c.self.view_is) (held_once c.self.inside.table c.in-None.is)
