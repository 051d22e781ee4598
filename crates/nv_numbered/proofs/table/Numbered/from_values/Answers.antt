use Rattle.std.proofs.Common.{◌≡◌, ◌+◌, ◌<◌, ℕ, length, ◌∙◌, arith, length-set, get_or}
use Rattle.std.proofs.lemmas.List.{length-replicate, take_all}
use Rattle.std.proofs.lemmas.Result.{err_from_is_err_and}
use Rattle.nv_numbered.specs.Table.{IsSound}
use Rattle.nv_numbered.proofs.SoundLemmas.{IsSound-empty, length-slots_of}
use Rattle.nv_numbered.proofs.MadeLemmas.{few_before, vacant_next, IsSound-next, value_by_place}
use Rattle.nv_numbered.proofs.table.Numbered.from_values.Given.{Over}
use Rattle.nv_numbered.proofs.table.Numbered.from_values.Goals as goal

pub loop-index-init : goal.loop-index-init
loop-index-init g c =
    rw (c.in_ok-places.ensures.items)
    (record {
      inside = omega arith;
      long = length-replicate {A = ℕ} c.args.limit 0;
      room = omega (arith, c.in_ok-places.ensures.ready, c.len.ensures, c.args.numbers.ok.0);
      sound = IsSound-empty c.args.limit c.requires.limit;
    })

pub overflow_add-index : goal.overflow_add-index
overflow_add-index g c =
    let numbers = c.args.numbers.items in
    let inside : c.loop-index.index < length numbers = rw c.deref-number-items.ensures.value at c.loop-index-test.true in
    let few = few_before c.loop-index.places.items numbers c.args.values.items c.args.limit c.loop-index.index c.requires.as_many c.requires.numbers c.loop-index.invariant.long inside c.loop-index.invariant.sound in
    omega (arith, few, c.requires.limit)

pub loop-index-preserved : goal.loop-index-preserved
loop-index-preserved g c =
    let numbers = c.args.numbers.items in
    let inside : c.loop-index.index < length numbers = rw c.deref-number-items.ensures.value at c.loop-index-test.true in
    rw (c.insert.ensures.items, c.deref-number-items.ensures.value)
    (record {
      inside = omega (arith, inside);
      room = omega (arith, c.loop-index.invariant.room, c.insert.ensures.room);
      long = length-set c.loop-index.places.items (get_or numbers c.loop-index.index 0) (c.loop-index.index + 1) ∙ c.loop-index.invariant.long;
      sound = IsSound-next c.loop-index.places.items numbers c.args.values.items c.args.limit c.loop-index.index c.requires.as_many c.requires.numbers c.loop-index.invariant.long inside c.loop-index.invariant.sound;
    })

-- each value has its place at the end
whole : (g : Over) (c : goal.After-loop-index g) → IsSound c.loop-index.places.items c.args.numbers.items c.args.values.items
whole g c =
    let numbers = c.args.numbers.items in
    let values = c.args.values.items in
    let count : c.loop-index.index ≡ length numbers = omega (arith, c.loop-index.invariant.inside, rw c.deref-number-items.ensures.value at c.loop-index-test.false) in
    let sound = c.loop-index.invariant.sound in
    rw (take_all c.loop-index.index numbers (omega (arith, count)), take_all c.loop-index.index values (omega (arith, count, c.requires.as_many))) at sound

pub invariant_of-result : goal.invariant_of-result
invariant_of-result g c = whole g c

pub returns-clause-values : goal.returns-clause-values
returns-clause-values g c number value = value_by_place c.loop-index.places.items c.args.numbers.items c.args.values.items (whole g c) number value

pub returns-in_err-places-clause-limit : goal.returns-in_err-places-clause-limit
returns-in_err-places-clause-limit g c = let w = err_from_is_err_and c.from_residual.result c.from_residual.ensures.1 in rw w.1 tt

pub returns-in_err-places-clause-values : goal.returns-in_err-places-clause-values
returns-in_err-places-clause-values g c = let w = err_from_is_err_and c.from_residual.result c.from_residual.ensures.1 in rw w.1 tt

pub returns-clause-limit : goal.returns-clause-limit
returns-clause-limit g c = length-slots_of c.loop-index.places.items c.args.values.items ∙ c.loop-index.invariant.long

pub insert-requires-clause-within : goal.insert-requires-clause-within
insert-requires-clause-within g c =
    let inside : c.loop-index.index < length c.args.numbers.items = rw c.deref-number-items.ensures.value at c.loop-index-test.true in
    rw c.deref-number-items.ensures.value (omega (arith, c.requires.numbers.below c.loop-index.index inside, c.loop-index.invariant.long))

pub insert-requires-clause-vacant : goal.insert-requires-clause-vacant
insert-requires-clause-vacant g c =
    let numbers = c.args.numbers.items in
    let inside : c.loop-index.index < length numbers = rw c.deref-number-items.ensures.value at c.loop-index-test.true in
    rw c.deref-number-items.ensures.value
    (vacant_next c.loop-index.places.items numbers c.args.values.items c.args.limit c.loop-index.index c.requires.as_many c.requires.numbers c.loop-index.invariant.long inside c.loop-index.invariant.sound)

pub insert-requires-clause-room : goal.insert-requires-clause-room
insert-requires-clause-room g c =
    let inside : c.loop-index.index < length c.args.numbers.items = rw c.deref-number-items.ensures.value at c.loop-index-test.true in
    omega (arith, inside, c.loop-index.invariant.room)
