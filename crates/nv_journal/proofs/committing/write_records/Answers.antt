use Rattle.std.proofs.Common.{ap, arith, length}
use Rattle.nv_region.proofs.Fuses.{keeps_more}
use Rattle.nv_region.proofs.Wordwise.{stores_more, within_more}
use Rattle.nv_journal.proofs.Recording.{record_more}
use Rattle.nv_journal.proofs.committing.write_records.Goals as goal

pub returns-in_err-write_record-clause-wrote : goal.returns-in_err-write_record-clause-wrote
returns-in_err-write_record-clause-wrote g c = stores_more _ _ _ _ _ _ _ _ (within_more _ 4032 _ 16 (omega (arith, c.place.ensures)) (omega (arith, c.place.ensures))) c.loop-k.invariant.wrote c.write_record.ensures.wrote

pub returns-in_err-write_record-clause-len : goal.returns-in_err-write_record-clause-len
returns-in_err-write_record-clause-len g c = omega (arith, c.write_record.ensures.wrote.mixed.as_long, ap length c.write_record.ensures.wrote.mixed.same_rest, c.loop-k.invariant.len)

pub returns-in_err-write_record-clause-keeps_fuse : goal.returns-in_err-write_record-clause-keeps_fuse
returns-in_err-write_record-clause-keeps_fuse g c = keeps_more (λ limit past. omega (arith, c.place.ensures)) c.loop-k.invariant.keeps_fuse c.write_record.ensures.keeps_fuse

pub loop-k-preserved : goal.loop-k-preserved
loop-k-preserved g c = record {
  recorded = record_more _ _ c.args.pending.now c.args.records.now c.loop-k.k c.place.result (omega arith) c.place.ensures c.write_record.ensures.wrote.mixed c.in_ok-write_record.ensures.recorded c.loop-k.invariant.recorded;
  wrote = stores_more _ _ _ _ _ _ _ _ (within_more _ 4032 _ 16 (omega (arith, c.place.ensures)) (omega (arith, c.place.ensures))) c.loop-k.invariant.wrote c.write_record.ensures.wrote;
  len = omega (arith, c.write_record.ensures.wrote.mixed.as_long, ap length c.write_record.ensures.wrote.mixed.same_rest, c.loop-k.invariant.len);
  keeps_fuse = keeps_more (λ limit past. omega (arith, c.place.ensures)) c.loop-k.invariant.keeps_fuse c.write_record.ensures.keeps_fuse;
}
