use Rattle.std.proofs.Common.{◌-◌, refl, ◌∙◌, arith}
use Rattle.nv_numbered.proofs.SlotLemmas.{slot_at_index, slots_of-write}
use Rattle.nv_numbered.proofs.SoundLemmas.{index_read, index_inside, IsSound-write}
use Rattle.nv_numbered.proofs.table.Numbered.value_mut.Goals as goal

pub at_mut-requires : goal.at_mut-requires
at_mut-requires g c =
    let t = c.self.inside in
    let place = index_read t.places.items t.numbers.items t.values.items c.self.invariant c.args.number c.get-place.result (rw (← c.self.view_is) at c.requires) c.get-place.ensures in
    omega (arith, index_inside t.places.items t.numbers.items t.values.items c.self.invariant c.args.number _ place)

pub invariant_of-self-lent : goal.invariant_of-self-lent
invariant_of-self-lent g c w =
    let t = c.self.inside in
    let place = index_read t.places.items t.numbers.items t.values.items c.self.invariant c.args.number c.get-place.result (rw (← c.self.view_is) at c.requires) c.get-place.ensures in
    IsSound-write t.places.items t.numbers.items t.values.items c.self.invariant c.args.number _ place w

pub returns : goal.returns
returns g c =
    let t = c.self.inside in
    let place = index_read t.places.items t.numbers.items t.values.items c.self.invariant c.args.number c.get-place.result (rw (← c.self.view_is) at c.requires) c.get-place.ensures in (
      (refl, λ w. rw (← c.self.view_is, slots_of-write t.places.items t.numbers.items t.values.items c.self.invariant.paired c.self.invariant.as_many c.args.number (c.get-place.result - 1) place w)),
      record {
        writes_back = tt;
        value = rw (← c.self.view_is) (slot_at_index t.places.items t.values.items c.args.number (c.get-place.result - 1) place ∙ c.at_mut.ensures.value);
      },
    )
