use Rattle.std.proofs.Common.{rules, ap, arith, subst, sym}
use Rattle.std.proofs.lemmas.Result.{on_ok_weaker}
use Rattle.nv_region.specs.Region.{Region, size}
use Rattle.nv_region.proofs.Fuses.{keeps_more, keeps_within}
use Rattle.nv_region.proofs.Stops.{refused_leaves}
use Rattle.nv_region.proofs.Wordwise.{fenced_stores, stores_more}
use Rattle.nv_journal.specs.Pending.{Begun}
use Rattle.nv_journal.proofs.Begins.{begun_either, begun_left, begun_mixed, has_then, wrote_records, number_word, number_alone, records_alone}
use Rattle.nv_journal.proofs.committing.begin.Goals as goal

pub write_records-requires : goal.write_records-requires
write_records-requires g c = let here = ap (λ (p : _). p.cpu) c.read-pending.ensures.is in let first = ap (λ (p : _). p.dequeue) c.read-pending.ensures.is in
    record { inside = omega (arith, here, c.requires.inside); fits = omega (arith, here, c.read-pending.ensures.fits); dequeue = omega (arith, first, c.requires.empty.0, c.requires.empty.1); few = c.requires.few }

pub number-behind_all-requires : goal.number-behind_all-requires
number-behind_all-requires g c = let first = ap (λ (p : _). p.dequeue) c.read-pending.ensures.is in record { dequeue = omega (arith, first, c.requires.empty.0, c.requires.empty.1); behind = omega (arith, c.requires.few) }

pub commit_word-requires : goal.commit_word-requires
commit_word-requires g c = record { aligned = omega (arith, c.enqueue_word.ensures); within = omega (arith, c.enqueue_word.ensures, c.requires.inside, c.write_records.ensures.len, ap size c.in_ok-fence.ensures.same) }

pub returns-clause-pending : goal.returns-clause-pending
returns-clause-pending g c = on_ok_weaker c.commit_word.result (has_then _ _ c.args.cpu c.args.records.now c.read-pending.result c.read-pending.ensures.is c.requires.empty c.write_records.ensures.wrote.mixed c.number-behind_all.result c.requires.few c.read-pending.ensures.whole c.number-behind_all.ensures c.in_ok-write_records.ensures.recorded _ c.in_ok-fence.ensures.same c.enqueue_word.result c.enqueue_word.ensures _) c.commit_word.ensures.done

pub returns-clause-moments : goal.returns-clause-moments
returns-clause-moments g c = record {
  reads = begun_either _ _ c.args.cpu c.args.records.now c.read-pending.result c.read-pending.ensures.is c.requires.empty c.write_records.ensures.wrote.mixed c.number-behind_all.result c.requires.few c.read-pending.ensures.whole c.number-behind_all.ensures c.in_ok-write_records.ensures.recorded _ c.in_ok-fence.ensures.same c.enqueue_word.result c.enqueue_word.ensures _ c.commit_word.ensures.reads;
  any_stop = λ settled left may. begun_either _ _ c.args.cpu c.args.records.now c.read-pending.result c.read-pending.ensures.is c.requires.empty c.write_records.ensures.wrote.mixed c.number-behind_all.result c.requires.few c.read-pending.ensures.whole c.number-behind_all.ensures c.in_ok-write_records.ensures.recorded _ c.in_ok-fence.ensures.same c.enqueue_word.result c.enqueue_word.ensures left (c.commit_word.ensures.any_stop c.in_ok-fence.ensures.fenced left may);
}

pub returns-clause-kept : goal.returns-clause-kept
returns-clause-kept g c = record {
  wrote = stores_more _ _ _ _ _ _ _ _ (number_word c.args.cpu c.enqueue_word.result _ c.enqueue_word.ensures)
      (fenced_stores c.fence.result _ _ _ _ _ _ _ (wrote_records c.read-pending.result c.args.cpu _ _ _ _ c.read-pending.ensures.is c.write_records.ensures.wrote) c.fence.ensures.same c.fence.ensures.fenced c.fence.ensures.refused_keep (g.met.P.Pmem.holds_now _)) c.commit_word.ensures.wrote;
  stopped = search rules;
  keeps_fuse = let here = ap (λ (p : _). p.cpu) c.read-pending.ensures.is in keeps_more (λ limit past. omega (arith, c.enqueue_word.ensures)) (keeps_more (λ limit past. omega arith) (keeps_within (λ limit past. omega (arith, here)) c.write_records.ensures.keeps_fuse) c.fence.ensures.keeps_fuse) c.commit_word.ensures.keeps_fuse;
  settled = search rules;
}

pub returns-in_err-write_records-clause-moments : goal.returns-in_err-write_records-clause-moments
returns-in_err-write_records-clause-moments g c = record {
  reads = begun_mixed _ _ c.args.cpu c.args.records.now c.read-pending.result c.read-pending.ensures.is c.requires.empty c.write_records.ensures.wrote.mixed;
  any_stop = λ settled. begun_left _ _ c.args.cpu c.args.records.now c.read-pending.result _ _ c.read-pending.ensures.is c.requires.empty settled c.write_records.ensures.wrote;
}

pub returns-in_err-write_records-clause-kept : goal.returns-in_err-write_records-clause-kept
returns-in_err-write_records-clause-kept g c = record {
  wrote = wrote_records c.read-pending.result c.args.cpu _ _ _ _ c.read-pending.ensures.is c.write_records.ensures.wrote;
  stopped = search rules;
  keeps_fuse = let here = ap (λ (p : _). p.cpu) c.read-pending.ensures.is in keeps_within (λ limit past. omega (arith, here)) c.write_records.ensures.keeps_fuse;
  settled = search rules;
}

pub returns-in_err-fence-clause-moments : goal.returns-in_err-fence-clause-moments
returns-in_err-fence-clause-moments g c = record {
  reads = subst (λ (Q : Region). Begun (g.P.Pmem.region c.args.memory.now) c.args.cpu c.args.records.now Q) (sym c.fence.ensures.same) (begun_mixed _ _ c.args.cpu c.args.records.now c.read-pending.result c.read-pending.ensures.is c.requires.empty c.write_records.ensures.wrote.mixed);
  any_stop = λ settled. refused_leaves _ _ _ _ _ c.fence.ensures.same c.in_err-fence.ensures.refused_keep (begun_left _ _ c.args.cpu c.args.records.now c.read-pending.result _ _ c.read-pending.ensures.is c.requires.empty settled c.write_records.ensures.wrote);
}

pub returns-in_err-fence-clause-kept : goal.returns-in_err-fence-clause-kept
returns-in_err-fence-clause-kept g c = record {
  wrote = fenced_stores c.fence.result _ _ _ _ _ _ _ (wrote_records c.read-pending.result c.args.cpu _ _ _ _ c.read-pending.ensures.is c.write_records.ensures.wrote) c.fence.ensures.same c.fence.ensures.fenced c.fence.ensures.refused_keep (g.met.P.Pmem.holds_now _);
  stopped = search rules;
  keeps_fuse = let here = ap (λ (p : _). p.cpu) c.read-pending.ensures.is in keeps_more (λ limit past. omega arith) (keeps_within (λ limit past. omega (arith, here)) c.write_records.ensures.keeps_fuse) c.fence.ensures.keeps_fuse;
  settled = search rules;
}

pub returns-in_err-write_records-clause-keeps_link : goal.returns-in_err-write_records-clause-keeps_link
returns-in_err-write_records-clause-keeps_link g c = records_alone c.read-pending.result c.args.cpu _ _ _ _ c.read-pending.ensures.is c.write_records.ensures.wrote

pub returns-in_err-fence-clause-keeps_link : goal.returns-in_err-fence-clause-keeps_link
returns-in_err-fence-clause-keeps_link g c = fenced_stores c.fence.result _ _ _ _ _ _ _ (records_alone c.read-pending.result c.args.cpu _ _ _ _ c.read-pending.ensures.is c.write_records.ensures.wrote) c.fence.ensures.same c.fence.ensures.fenced c.fence.ensures.refused_keep (g.met.P.Pmem.holds_now _)

pub returns-clause-keeps_link : goal.returns-clause-keeps_link
returns-clause-keeps_link g c = stores_more _ _ _ _ _ _ _ _ (number_alone c.args.cpu c.enqueue_word.result _ c.enqueue_word.ensures)
    (fenced_stores c.fence.result _ _ _ _ _ _ _ (records_alone c.read-pending.result c.args.cpu _ _ _ _ c.read-pending.ensures.is c.write_records.ensures.wrote) c.fence.ensures.same c.fence.ensures.fenced c.fence.ensures.refused_keep (g.met.P.Pmem.holds_now _)) c.commit_word.ensures.wrote
