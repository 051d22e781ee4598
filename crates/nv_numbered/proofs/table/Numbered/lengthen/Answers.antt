use Rattle.std.proofs.Common.{◌-◌, arith, length}
use Rattle.nv_numbered.proofs.SoundLemmas.{length-slots_of}
use Rattle.nv_numbered.proofs.LongerLemmas.{IsSound-longer, slots_longer}
use Rattle.nv_numbered.proofs.table.Numbered.lengthen.Goals as goal

pub lengthen-requires-clause-few : goal.lengthen-requires-clause-few
lengthen-requires-clause-few g c =
    let t = c.self.inside in
    let few = rw (← c.self.view_is) at c.requires.few in
    omega (arith, few, length-slots_of t.places.items t.values.items)

pub invariant_of-self : goal.invariant_of-self
invariant_of-self g c = rw (c.in_err-lengthen.ensures.err) c.self.invariant

pub invariant_of-self-2 : goal.invariant_of-self-2
invariant_of-self-2 g c =
    let t = c.self.inside in
    rw (c.in_ok-lengthen.ensures.ok)
    (IsSound-longer t.places.items t.numbers.items t.values.items (c.args.limit - length t.places.items) c.self.invariant (omega (arith, c.requires.small, c.self.invariant.few)))

pub returns-clause-ok : goal.returns-clause-ok
returns-clause-ok g c =
    let t = c.self.inside in
    rw (c.in_ok-lengthen.ensures.ok, ← c.self.view_is) (slots_longer t.places.items t.values.items c.args.limit)
