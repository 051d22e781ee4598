use Rattle.std.proofs.Common.{inl, inr, refl, ◌∙◌, arith}
use Rattle.nv_region.proofs.Before.{AreNoted, more_noted}
use Rattle.nv_region.proofs.stored.StoredLines.note_stretches.Goals as goal

pub loop-here-preserved-then-start-stop : goal.loop-here-preserved-then-start-stop
loop-here-preserved-then-start-stop c =
    let was = c.loop-here.invariant in
    let row = c.fresh_row-start.ensures in
    let noted : AreNoted c.args.self.now c.note_fresh.new.self c.args.words.now c.args.first c.fresh_row-start.result.1 =
    more_noted c.args.self.now c.loop-here.self c.note_fresh.new.self c.args.words.now c.args.first c.loop-here.here c.fresh_row-start.result.0 c.fresh_row-start.result.1 was.from row.order.0 row.order.1 row.noted row.fresh
    c.note_fresh.ensures.here c.note_fresh.ensures.others (record { here = was.here; others = was.others }) in
    record {
      from = omega (arith, was.from, row.more);
      to = row.order.2;
      total = c.note_fresh.ensures.total ∙ was.total;
      lines = λ p stored. elim (c.note_fresh.ensures.lines p stored) [
        | inl before ↦ elim (was.lines p before) [ inl old ↦ inl old | inr low ↦ inr (omega (arith, low, row.more)) ]
        | inr new ↦ inr new
      ];
      here = noted.here;
      others = noted.others;
    }

pub loop-here-preserved : goal.loop-here-preserved
loop-here-preserved c =
    let was = c.loop-here.invariant in
    let row = c.fresh_row-start.ensures in
    let noted : AreNoted c.args.self.now c.loop-here.self c.args.words.now c.args.first c.fresh_row-start.result.1 =
    more_noted c.args.self.now c.loop-here.self c.loop-here.self c.args.words.now c.args.first c.loop-here.here c.fresh_row-start.result.0 c.fresh_row-start.result.1 was.from row.order.0 row.order.1 row.noted row.fresh
    (λ after i within from to. absurd (omega (arith, from, to, c.if-start-stop.false))) (λ after i within away. refl) (record { here = was.here; others = was.others }) in
    record {
      from = omega (arith, was.from, row.more);
      to = row.order.2;
      total = was.total;
      lines = λ p stored. elim (was.lines p stored) [ inl old ↦ inl old | inr low ↦ inr (omega (arith, low, row.more)) ];
      here = noted.here;
      others = noted.others;
    }
