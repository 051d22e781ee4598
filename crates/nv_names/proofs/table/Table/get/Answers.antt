use Rattle.std.proofs.Common.{map}
use Rattle.nv_names.specs.Table.{fresh_line}
use Rattle.nv_names.proofs.Entries.{found_in-first, found_in-second}
use Rattle.nv_names.proofs.table.Table.get.Goals as goal

pub returns-in-Some : goal.returns-in-Some
returns-in-Some c = rw (← c.self.view_is) (found_in-first c.self.inside.buckets (map fresh_line c.self.inside.fresh.items) c.args.name.now _ c.in-Some.ensures)

pub returns-in-None : goal.returns-in-None
returns-in-None c =
    rw (← c.self.view_is)
    (found_in-second c.self.inside.buckets (map fresh_line c.self.inside.fresh.items) c.args.name.now _ c.in-None.ensures (rw c.as_slice.ensures.value at c.target_of.ensures))
