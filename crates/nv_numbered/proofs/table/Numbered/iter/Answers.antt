use Rattle.nv_numbered.specs.Table.{slots_of}
use Rattle.nv_numbered.proofs.EntryLemmas.{entries_from_rise, Contains-entries}
use Rattle.nv_numbered.proofs.SoundLemmas.{leads_to_value}
use Rattle.nv_numbered.proofs.table.Numbered.iter.Goals as goal

pub invariant_of-result : goal.invariant_of-result
invariant_of-result g c =
    let t = c.self.inside in
    record { leads = leads_to_value t.places.items t.numbers.items t.values.items c.self.invariant; few = c.self.invariant.few }

pub returns-clause-rising : goal.returns-clause-rising
returns-clause-rising g c = entries_from_rise 0 (slots_of c.self.inside.places.items c.self.inside.values.items)

pub returns-clause-each : goal.returns-clause-each
returns-clause-each g c = λ number value.
    rw (← c.self.view_is)
    (Contains-entries (slots_of c.self.inside.places.items c.self.inside.values.items) number value)
