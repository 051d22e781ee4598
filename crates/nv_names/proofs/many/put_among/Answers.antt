use Rattle.std.proofs.Common.{get_or, ap}
use Rattle.nv_names.specs.Names.{inode_and_place}
use Rattle.nv_names.proofs.Choosing.{put_among}
use Rattle.nv_names.proofs.many.put_among.Goals as goal

pub returns : goal.returns
returns c =
    let both =
    put_among c.put-had.result c.args.buckets.now c.args.key c.place_of.result (get_or c.args.buckets.now c.place_of.result c.index-buckets-place_of.result) c.put-had.new.self c.args.name.now (inode_and_place c.args.target)
    c.requires.many c.requires.key c.place_of.ensures.place c.place_of.ensures.within (ap (get_or c.args.buckets.now c.place_of.result) c.index-buckets-place_of.is) c.len-each_once.ensures.each_once
    (record { had = c.put-had.ensures.had; ok = c.put-had.ensures.ok; err = c.put-had.ensures.err; more = c.put-had.ensures.more; no_more = c.put-had.ensures.no_more }) in
    record { many = both.stand; had = both.put.had; ok = both.put.ok; err = both.put.err; more = both.put.more; no_more = both.put.no_more }
