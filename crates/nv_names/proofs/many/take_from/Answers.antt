use Rattle.std.proofs.Common.{get_or, ap}
use Rattle.nv_names.proofs.Choosing.{taken_from}
use Rattle.nv_names.proofs.many.take_from.Goals as goal

pub returns : goal.returns
returns c =
    let both =
    taken_from c.take_out-had.result c.args.buckets.now c.args.key c.place_of.result (get_or c.args.buckets.now c.place_of.result c.index-buckets-place_of.result) c.take_out-had.new.self c.args.name.now
    c.requires.many c.requires.key c.place_of.ensures.place c.place_of.ensures.within (ap (get_or c.args.buckets.now c.place_of.result) c.index-buckets-place_of.is) c.len-each_once.ensures.each_once
    (record { names = c.take_out-had.ensures.names; less = c.take_out-had.ensures.less }) in
    record { many = both.stand; names = both.taken.names; less = both.taken.less }
