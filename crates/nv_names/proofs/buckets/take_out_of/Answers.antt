use Rattle.std.proofs.Common.{◌≡◌, length, subst, arith}
use Rattle.std.proofs.lemmas.List.{with_items_is}
use Rattle.nv_names.proofs.Choosing.{TakenFrom, not_many, some_many, taken_one, taken_many}
use Rattle.nv_names.proofs.buckets.take_out_of.Goals as goal

pub returns-then-is_empty : goal.returns-then-is_empty
returns-then-is_empty c =
    let len : length c.args.many.now.items ≡ c.args.many.now.len = omega arith in
    let t =
    taken_one c.take_out-had.result c.args.one.now c.take_out-had.new.self c.args.many.now.items c.args.name.now
    (not_many c.args.many.now.items c.args.many.now.len c.is_empty.result len c.is_empty.ensures c.if-is_empty.true) c.len-each_once.ensures.each_once
    (record { names = c.take_out-had.ensures.names; less = c.take_out-had.ensures.less }) in
    record { buckets = t.buckets; names = t.taken.names; less = t.taken.less }

pub take_from-requires-clause-some : goal.take_from-requires-clause-some
take_from-requires-clause-some c =
    let len : length c.as_mut_slice.result.now ≡ c.args.many.now.len = omega arith in
    some_many c.as_mut_slice.result.now c.args.many.now.len c.is_empty.result len c.is_empty.ensures c.if-is_empty.false

pub take_from-requires-clause-many : goal.take_from-requires-clause-many
take_from-requires-clause-many c = rw c.as_mut_slice.ensures.value c.requires.each

pub returns : goal.returns
returns c =
    let len : length c.args.many.now.items ≡ c.args.many.now.len = omega arith in
    let same : length c.take_from.new.buckets ≡ c.args.many.now.len = omega arith in
    let items = with_items_is c.args.many.now c.take_from.new.buckets same in
    let from : TakenFrom c.take_from.result c.args.many.now.items c.take_from.new.buckets c.args.name.now =
    subst (λ ts. TakenFrom c.take_from.result ts c.take_from.new.buckets c.args.name.now) c.as_mut_slice.ensures.value
    (record { stand = c.take_from.ensures.many; taken = record { names = c.take_from.ensures.names; less = c.take_from.ensures.less } }) in
    let t =
    taken_many c.take_from.result c.args.one.now c.args.many.now.items c.take_from.new.buckets c.args.name.now
    (c.requires.alone (some_many c.args.many.now.items c.args.many.now.len c.is_empty.result len c.is_empty.ensures c.if-is_empty.false)) from in
    rw items (record { buckets = t.buckets; names = t.taken.names; less = t.taken.less })
