use Rattle.std.proofs.Common.{rules, ◌≡◌, ◌-◌, ◌*◌, ap, arith, subst, sym, ◌∙◌}
use Rattle.std.proofs.lemmas.Result.{on_ok_weaker}
use Rattle.nv_region.proofs.Puts.{blocks_stay}
use Rattle.nv_region.proofs.Fuses.{keeps_more}
use Rattle.nv_region.specs.Region.{Region}
use Rattle.nv_region.specs.Stored.{SameOutside}
use Rattle.nv_region.proofs.Wordwise.{fenced_stores, outside_more, stores_more}
use Rattle.nv_inode.specs.Permitted.{is_permitted_by, slots_end}
use Rattle.nv_journal.specs.Undo.{count_of, pending_count, pending_from, permitted, stores}
use Rattle.nv_journal.proofs.Partly.{read_sound}
use Rattle.nv_journal.proofs.Turns.{old_value, one_turn}
use Rattle.nv_journal.proofs.rollback.put_all_back.Goals as goal

pub put_back-requires : goal.put_back-requires
put_back-requires g c = record {
  layout = c.requires.layout;
  blocks = blocks_stay _ _ _ _ c.loop-done.invariant.wrote.mixed c.requires.blocks;
  aligned = omega (arith, c.place.ensures);
  inside = omega (arith, c.place.ensures, c.requires.cpu, c.requires.layout.layout.areas.room);
}

pub returns-in_err-put_back-clause-kept : goal.returns-in_err-put_back-clause-kept
returns-in_err-put_back-clause-kept g c = record {
  wrote = stores_more _ _ _ _ _ _ _ _ (old_value c.args.tables.now.layout _ _ c.args.pending.now c.count-count.result c.loop-done.done c.place.result c.requires.layout c.requires.cpu c.requires.read c.count-count.ensures c.loop-done-test.true c.loop-done.invariant.so_far c.place.ensures (read_sound (g.P.Pmem.region c.args.memory.now) c.args.pending.now c.requires.read c.requires.sound)) c.loop-done.invariant.wrote c.put_back.ensures.kept.wrote;
  outside = outside_more _ _ _ _ _ c.loop-done.invariant.outside c.put_back.ensures.kept.outside;
  stopped = search rules;
  keeps_fuse = keeps_more (λ limit past. past) c.loop-done.invariant.keeps_fuse c.put_back.ensures.kept.keeps_fuse;
}

pub returns-clause-kept : goal.returns-clause-kept
returns-clause-kept g c = record {
  wrote = fenced_stores c.fence.result _ _ _ _ _ _ _ c.loop-done.invariant.wrote c.fence.ensures.same c.fence.ensures.fenced c.fence.ensures.refused_keep (g.met.P.Pmem.holds_now _);
  outside = subst (λ (Q : Region). SameOutside (g.P.Pmem.region c.args.memory.now) 4096 (4096 * (slots_end c.args.tables.now.layout.sup - 1)) Q) (sym c.fence.ensures.same) c.loop-done.invariant.outside;
  stopped = search rules;
  keeps_fuse = search rules;
}

pub loop-done-preserved : goal.loop-done-preserved
loop-done-preserved g c = record {
  so_far = one_turn c.args.tables.now.layout _ _ c.args.pending.now c.count-count.result c.loop-done.done c.place.result
      c.requires.layout c.requires.cpu c.requires.read c.count-count.ensures c.loop-done-test.true c.loop-done.invariant.so_far c.place.ensures _ c.in_ok-put_back.ensures.done;
  wrote = stores_more _ _ _ _ _ _ _ _
      (old_value c.args.tables.now.layout _ _ c.args.pending.now c.count-count.result c.loop-done.done c.place.result
      c.requires.layout c.requires.cpu c.requires.read c.count-count.ensures c.loop-done-test.true c.loop-done.invariant.so_far c.place.ensures
      (read_sound (g.P.Pmem.region c.args.memory.now) c.args.pending.now c.requires.read c.requires.sound))
      c.loop-done.invariant.wrote c.put_back.ensures.kept.wrote;
  outside = outside_more _ _ _ _ _ c.loop-done.invariant.outside c.put_back.ensures.kept.outside;
  keeps_fuse = keeps_more (λ limit past. past) c.loop-done.invariant.keeps_fuse c.put_back.ensures.kept.keeps_fuse;
}

pub returns-clause-done : goal.returns-clause-done
returns-clause-done g c =
    let s = c.args.tables.now.layout in
    let R : Region = g.P.Pmem.region c.args.memory.now in
    let none : c.count-count.result - c.loop-done.done ≡ 0 = omega arith in
    let finished : c.loop-done.done ≡ c.count-count.result = omega arith in
    let all : c.loop-done.done ≡ pending_count R c.args.pending.now.cpu = finished ∙ c.count-count.ensures ∙ ap count_of c.requires.read in
    on_ok_weaker c.fence.result (λ _. c.fence.ensures.same ∙ c.loop-done.invariant.so_far ∙ (λ i. stores (permitted (is_permitted_by s) (pending_from R c.args.pending.now.cpu (none i) (all i))) R)) c.fence.ensures.fenced

pub returns-clause-settled : goal.returns-clause-settled
returns-clause-settled g c = search depth 2 parts 0 steps 300000
