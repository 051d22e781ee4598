use Rattle.std.proofs.Common.{◌≡◌, length, subst, arith}
use Rattle.std.proofs.lemmas.List.{with_items_is}
use Rattle.nv_names.specs.Names.{inode_and_place}
use Rattle.nv_names.proofs.Choosing.{PutAmong, not_many, some_many, put_one, put_many}
use Rattle.nv_names.proofs.buckets.put_in.Goals as goal

pub returns-then-is_empty : goal.returns-then-is_empty
returns-then-is_empty c =
    let len : length c.args.many.now.items ≡ c.args.many.now.len = omega arith in
    let p =
    put_one c.put-had.result c.args.one.now c.put-had.new.self c.args.many.now.items c.args.name.now (inode_and_place c.args.target)
    (not_many c.args.many.now.items c.args.many.now.len c.is_empty.result len c.is_empty.ensures c.if-is_empty.true) c.len-each_once.ensures.each_once
    (record { had = c.put-had.ensures.had; ok = c.put-had.ensures.ok; err = c.put-had.ensures.err; more = c.put-had.ensures.more; no_more = c.put-had.ensures.no_more }) in
    record { buckets = p.buckets; had = p.put.had; ok = p.put.ok; err = p.put.err; more = p.put.more; no_more = p.put.no_more }

pub put_among-requires-clause-some : goal.put_among-requires-clause-some
put_among-requires-clause-some c =
    let len : length c.as_mut_slice.result.now ≡ c.args.many.now.len = omega arith in
    some_many c.as_mut_slice.result.now c.args.many.now.len c.is_empty.result len c.is_empty.ensures c.if-is_empty.false

pub put_among-requires-clause-many : goal.put_among-requires-clause-many
put_among-requires-clause-many c = rw c.as_mut_slice.ensures.value c.requires.each

pub returns : goal.returns
returns c =
    let len : length c.args.many.now.items ≡ c.args.many.now.len = omega arith in
    let same : length c.put_among.new.buckets ≡ c.args.many.now.len = omega arith in
    let items = with_items_is c.args.many.now c.put_among.new.buckets same in
    let among : PutAmong c.put_among.result c.args.many.now.items c.put_among.new.buckets c.args.name.now (inode_and_place c.args.target) =
    subst (λ ts. PutAmong c.put_among.result ts c.put_among.new.buckets c.args.name.now (inode_and_place c.args.target)) c.as_mut_slice.ensures.value
    (record {
      stand = c.put_among.ensures.many;
      put = record { had = c.put_among.ensures.had; ok = c.put_among.ensures.ok; err = c.put_among.ensures.err; more = c.put_among.ensures.more; no_more = c.put_among.ensures.no_more };
    }) in
    let p =
    put_many c.put_among.result c.args.one.now c.args.many.now.items c.put_among.new.buckets c.args.name.now (inode_and_place c.args.target)
    (c.requires.alone (some_many c.args.many.now.items c.args.many.now.len c.is_empty.result len c.is_empty.ensures c.if-is_empty.false)) among in
    rw items (record { buckets = p.buckets; had = p.put.had; ok = p.put.ok; err = p.put.err; more = p.put.more; no_more = p.put.no_more })
