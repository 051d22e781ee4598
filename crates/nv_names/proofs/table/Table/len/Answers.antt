use Rattle.std.proofs.Common.{map}
use Rattle.nv_names.specs.Table.{fresh_line}
use Rattle.nv_names.proofs.Beside.{distinct-both}
use Rattle.nv_names.proofs.table.Table.len.Goals as goal

pub returns-clause-each_once : goal.returns-clause-each_once
returns-clause-each_once c = rw (← c.self.view_is) (distinct-both c.self.inside.buckets (map fresh_line c.self.inside.fresh.items) c.len.ensures.each_once c.self.invariant.once c.self.invariant.apart)
