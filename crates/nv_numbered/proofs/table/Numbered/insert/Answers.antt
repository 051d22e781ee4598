use Rattle.std.proofs.Common.{◌≡◌, ◌+◌, ◌<◌, List, length, ap, arith}
use Rattle.std.proofs.lemmas.List.{length_push}
use Rattle.nv_numbered.proofs.SlotLemmas.{slots_of-insert}
use Rattle.nv_numbered.proofs.SoundLemmas.{length-slots_of, vacant_place, one_is_free, IsSound-insert}
use Rattle.nv_numbered.proofs.table.Numbered.insert.Goals as goal

pub overflow_cast-len : goal.overflow_cast-len
overflow_cast-len g c =
    let t = c.self.inside in
    let within = rw (← c.self.view_is) at c.requires.within in
    let vacant = rw (← c.self.view_is) at c.requires.vacant in
    let inside : c.args.number < length t.places.items = omega (arith, within, length-slots_of t.places.items t.values.items) in
    let count : c.len.result ≡ length t.numbers.items + 1 = omega (arith, ap (λ (l : List g.row.T.Denot). length l) c.push_reserved-2.ensures.items, length_push t.values.items c.args.value, c.self.invariant.as_many) in
    omega (arith, one_is_free t.places.items t.numbers.items t.values.items c.self.invariant c.args.number c.args.value inside vacant, c.self.invariant.few, c.self.invariant.as_many)

pub invariant_of-self : goal.invariant_of-self
invariant_of-self g c =
    let t = c.self.inside in
    let within = rw (← c.self.view_is) at c.requires.within in
    let vacant = rw (← c.self.view_is) at c.requires.vacant in
    let inside : c.args.number < length t.places.items = omega (arith, within, length-slots_of t.places.items t.values.items) in
    let count : c.len.result ≡ length t.numbers.items + 1 = omega (arith, ap (λ (l : List g.row.T.Denot). length l) c.push_reserved-2.ensures.items, length_push t.values.items c.args.value, c.self.invariant.as_many) in
    rw (c.insert.ensures.items, c.push_reserved.ensures.items, c.push_reserved-2.ensures.items, count)
    (IsSound-insert t.places.items t.numbers.items t.values.items c.self.invariant c.args.number c.args.value inside vacant)

pub returns-clause-values : goal.returns-clause-values
returns-clause-values g c =
    let t = c.self.inside in
    let within = rw (← c.self.view_is) at c.requires.within in
    let inside : c.args.number < length t.places.items = omega (arith, within, length-slots_of t.places.items t.values.items) in
    let count : c.len.result ≡ length t.numbers.items + 1 = omega (arith, ap (λ (l : List g.row.T.Denot). length l) c.push_reserved-2.ensures.items, length_push t.values.items c.args.value, c.self.invariant.as_many) in
    rw (c.insert.ensures.items, c.push_reserved-2.ensures.items, count, ← c.self.view_is)
    (slots_of-insert t.places.items t.numbers.items t.values.items c.self.invariant.paired c.self.invariant.as_many c.args.number c.args.value inside)

pub returns-clause-room : goal.returns-clause-room
returns-clause-room g c = let room = rw (← c.self.view_is) at c.requires.room in rw (← c.self.view_is) (omega arith)

pub insert-requires-clause-vacant : goal.insert-requires-clause-vacant
insert-requires-clause-vacant g c =
    let t = c.self.inside in
    let vacant = rw (← c.self.view_is) at c.requires.vacant in
    vacant_place t.places.items t.numbers.items t.values.items c.self.invariant c.args.number c.args.value vacant

pub push_reserved-requires : goal.push_reserved-requires
push_reserved-requires g c = let room = rw (← c.self.view_is) at c.requires.room in omega arith

pub push_reserved-requires-2 : goal.push_reserved-requires-2
push_reserved-requires-2 g c = let room = rw (← c.self.view_is) at c.requires.room in omega arith
