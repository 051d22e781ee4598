use Rattle.nv_numbered.specs.Table.{slots_of}
use Rattle.nv_numbered.proofs.EntryLemmas.{is_empty-entries_from}
use Rattle.nv_numbered.proofs.table.Numbered.is_empty.Goals as goal

pub returns : goal.returns
returns g c =
    let t = c.self.inside in
    let same = is_empty-entries_from 0 (slots_of t.places.items t.values.items) t.values.items c.self.invariant.counted in
    rw (← c.self.view_is) (λ empty. same.0 (c.is_empty.ensures.0 empty), λ none. c.is_empty.ensures.1 (same.1 none))
