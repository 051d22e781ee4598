use Rattle.std.proofs.Common.{rules, arith, ◌≡◌, ◌*◌, ◌-◌, ◌<◌, length, min}
use Rattle.nv_entry.proofs.Words.{name_refused}
use Rattle.nv_entry.proofs.Texts.{text_next_stands, text_stands}
use Rattle.nv_entry.proofs.reading.is_padded.Goals as goal

pub returns-then-has_high_part-clause-none : goal.returns-then-has_high_part-clause-none
returns-then-has_high_part-clause-none g c =
    let e : c.min-part.result ≡ min (c.args.count - 8 * c.loop-k.k) 8 = search rules in
    λ _ name len text is.
    let in_name : 8 * c.loop-k.k < length name = rw len (omega arith) in
    let part : c.min-part.result ≡ min (length name - 8 * c.loop-k.k) 8 = rw len e in
    name_refused (g.P.Pmem.region c.args.memory.now) _ c.loop-k.k c.load.result c.min-part.result name text is in_name c.load.ensures part (c.has_high_part.ensures.some c.if-has_high_part.true)

pub loop-k-preserved : goal.loop-k-preserved
loop-k-preserved g c =
    let e : c.min-part.result ≡ min (c.args.count - 8 * c.loop-k.k) 8 = search rules in
    text_next_stands (g.P.Pmem.region c.args.memory.now) c.args.at c.args.count c.loop-k.k c.min-part.result c.load.result (omega arith) e c.load.ensures (c.has_high_part.ensures.none c.if-has_high_part.false) c.loop-k.invariant

pub returns-clause-text : goal.returns-clause-text
returns-clause-text g c = λ _. text_stands (g.P.Pmem.region c.args.memory.now) c.args.at c.args.count c.loop-k.k (omega arith) c.loop-k.invariant
