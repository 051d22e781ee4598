use Rattle.std.proofs.Common.{arith}
use Rattle.nv_numbered.specs.Table.{slots_of}
use Rattle.nv_numbered.proofs.EntryLemmas.{length-entries_from}
use Rattle.nv_numbered.proofs.table.Numbered.len.Goals as goal

pub returns : goal.returns
returns g c =
    let t = c.self.inside in
    rw (← c.self.view_is) (omega (arith, length-entries_from 0 (slots_of t.places.items t.values.items), c.self.invariant.counted))
