use Rattle.std.proofs.Common.{arith}
use Rattle.nv_records.proofs.Slots.{word_inside}
use Rattle.nv_records.proofs.naming.word_at.Goals as goal

pub load-now-requires-clause-within : goal.load-now-requires-clause-within
load-now-requires-clause-within g c =
    let inside = word_inside c.args.tables.now.layout c.args.at c.are_laid.ensures (c.permits.ensures.names.0 c.if-not-permits.false) in
    let blocks = c.requires in
    omega (arith, inside, blocks.0, blocks.1)
