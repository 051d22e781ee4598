use Rattle.std.proofs.Common.{◌-◌, sym, ◌∙◌, arith}
use Rattle.nv_numbered.specs.Table.{slots_of}
use Rattle.nv_numbered.proofs.PairLemmas.{IsSwapRemoved-from_lens, last_place, last_within}
use Rattle.nv_numbered.proofs.SlotLemmas.{slot_at_index, slot_at_none, set_none, slots_of-remove}
use Rattle.nv_numbered.proofs.SoundLemmas.{before_place, index_inside, last_read, unplaced, IsSound-remove}
use Rattle.nv_numbered.proofs.table.Numbered.remove.Goals as goal

pub returns-then-place-eq0-clause-values : goal.returns-then-place-eq0-clause-values
returns-then-place-eq0-clause-values g c =
    let t = c.self.inside in
    let vacant = sym c.get-place.ensures ∙ c.if-place-eq0.true in
    rw (← c.self.view_is) (set_none (slots_of t.places.items t.values.items) c.args.number (slot_at_none t.places.items t.values.items c.args.number vacant))

pub overflow_sub-len : goal.overflow_sub-len
overflow_sub-len g c =
    let place = before_place _ _ _ c.self.invariant c.args.number c.get-place.result c.get-place.ensures c.if-place-eq0.false in
    omega (arith, index_inside _ _ _ c.self.invariant c.args.number _ place, c.self.invariant.as_many, c.self.inside.numbers.ok.0)

pub index-moved-requires : goal.index-moved-requires
index-moved-requires g c =
    let place = before_place _ _ _ c.self.invariant c.args.number c.get-place.result c.get-place.ensures c.if-place-eq0.false in
    omega (arith, index_inside _ _ _ c.self.invariant c.args.number _ place, c.self.invariant.as_many, c.self.inside.numbers.ok.0)

pub replace-requires-clause-within : goal.replace-requires-clause-within
replace-requires-clause-within g c =
    let t = c.self.inside in
    let place = before_place _ _ _ c.self.invariant c.args.number c.get-place.result c.get-place.ensures c.if-place-eq0.false in
    let last = last_read _ _ _ c.self.invariant c.args.number _ place c.len.result c.index-moved.result.now (c.len.ensures ∙ t.numbers.ok.0) c.index-moved.ensures in
    last_within _ _ c.self.invariant.paired c.args.number _ _ place last

pub replace-requires-clause-taken : goal.replace-requires-clause-taken
replace-requires-clause-taken g c none =
    let t = c.self.inside in
    let place = before_place _ _ _ c.self.invariant c.args.number c.get-place.result c.get-place.ensures c.if-place-eq0.false in
    let last = last_read _ _ _ c.self.invariant c.args.number _ place c.len.result c.index-moved.result.now (c.len.ensures ∙ t.numbers.ok.0) c.index-moved.ensures in
    let end = last_place t.places.items t.numbers.items c.self.invariant.paired c.args.number _ _ place last in
    absurd (omega (arith, end, none, index_inside _ _ _ c.self.invariant c.args.number _ place, c.self.invariant.as_many))

pub swap_remove-number-requires : goal.swap_remove-number-requires
swap_remove-number-requires g c =
    let place = before_place _ _ _ c.self.invariant c.args.number c.get-place.result c.get-place.ensures c.if-place-eq0.false in
    omega (arith, index_inside _ _ _ c.self.invariant c.args.number _ place, c.self.invariant.as_many, c.self.inside.numbers.ok.0)

pub invariant_of-self : goal.invariant_of-self
invariant_of-self g c =
    let t = c.self.inside in
    let index = c.get-place.result - 1 in
    let place = before_place _ _ _ c.self.invariant c.args.number c.get-place.result c.get-place.ensures c.if-place-eq0.false in
    let last = last_read _ _ _ c.self.invariant c.args.number _ place c.len.result c.index-moved.result.now (c.len.ensures ∙ t.numbers.ok.0) c.index-moved.ensures in
    let renumbered = IsSwapRemoved-from_lens t.numbers.items c.swap_remove-number.new.self.items index _ _ t.numbers.ok.0 c.swap_remove-number.new.self.ok.0 c.swap_remove-number.ensures.len c.swap_remove-number.ensures.by_index in
    rw (c.remove.ensures.items, c.replace.ensures.items)
    (IsSound-remove _ _ _ c.self.invariant c.args.number index place c.swap_remove.result c.index-moved.result.now last _ _ _
    (unplaced _ _ _ c.self.invariant c.args.number index place c.get-place.result c.index-moved.result.now (omega arith) last)
    renumbered c.swap_remove.ensures.items)

pub returns-clause-value : goal.returns-clause-value
returns-clause-value g c =
    let place = before_place _ _ _ c.self.invariant c.args.number c.get-place.result c.get-place.ensures c.if-place-eq0.false in
    rw (← c.self.view_is) (sym (slot_at_index _ _ c.args.number _ place ∙ c.swap_remove.ensures.value))

pub returns-clause-values : goal.returns-clause-values
returns-clause-values g c =
    let t = c.self.inside in
    let index = c.get-place.result - 1 in
    let place = before_place _ _ _ c.self.invariant c.args.number c.get-place.result c.get-place.ensures c.if-place-eq0.false in
    let last = last_read _ _ _ c.self.invariant c.args.number _ place c.len.result c.index-moved.result.now (c.len.ensures ∙ t.numbers.ok.0) c.index-moved.ensures in
    rw (c.remove.ensures.items, c.replace.ensures.items, ← c.self.view_is)
    (slots_of-remove _ _ _ c.self.invariant.paired c.self.invariant.as_many c.args.number index place c.index-moved.result.now last _ _
    (unplaced _ _ _ c.self.invariant c.args.number index place c.get-place.result c.index-moved.result.now (omega arith) last)
    c.swap_remove.ensures.items c.swap_remove.result)

pub returns-then-place-eq0-clause-value : goal.returns-then-place-eq0-clause-value
returns-then-place-eq0-clause-value g c =
    let t = c.self.inside in
    let vacant = sym c.get-place.ensures ∙ c.if-place-eq0.true in
    rw (← c.self.view_is) (sym (slot_at_none t.places.items t.values.items c.args.number vacant))

pub returns-clause-room : goal.returns-clause-room
returns-clause-room g c = rw (← c.self.view_is) (omega arith)

pub returns-clause-freed : goal.returns-clause-freed
returns-clause-freed g c = rw (← c.self.view_is) (omega arith)
