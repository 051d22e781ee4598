use Rattle.std.proofs.Common.{ap, arith}
use Rattle.nv_alloc.specs.Taking.{blocks_in}
use Rattle.nv_alloc.specs.FreeRuns.{is_free}
use Rattle.nv_alloc.proofs.RunParts.{skip_to, no_runs}
use Rattle.nv_alloc.proofs.PoolMarks.{blocks_cut}
use Rattle.nv_alloc.proofs.cutting.count_blocks.Goals as goal

pub loop-here-init : goal.loop-here-init
loop-here-init c =
    let first = c.next_free-here.ensures in
    let skipped = ap blocks_in (skip_to (is_free c.args.marks.now c.args.from) c.args.from c.next_free-here.result c.args.to first.order.0 first.order.1 first.passed) in
    record { low = first.order.0; high = first.order.1; few = omega (arith, first.order); free = first.found; counted = omega (arith, skipped) }

pub loop-here-preserved : goal.loop-here-preserved
loop-here-preserved c =
    let i = c.loop-here.invariant in let end = c.next_used-end.ensures in let next = c.next_free-here-in-loop-here.ensures in
    let cut = blocks_cut (is_free c.args.marks.now c.args.from) c.loop-here.here c.next_used-end.result c.next_free-here-in-loop-here.result c.args.to
    c.loop-here-test.true (i.free c.loop-here-test.true) end.order end.passed end.found next.order next.passed in
    record {
      low = omega (arith, i.low, end.order, next.order);
      high = next.order.1;
      few = omega (arith, i.few, end.order, next.order);
      free = next.found;
      counted = omega (arith, i.counted, cut);
    }

pub returns : goal.returns
returns c =
    let none = ap blocks_in (no_runs (is_free c.args.marks.now c.args.from) c.loop-here.here c.args.to c.loop-here-test.false) in
    omega (arith, none, c.loop-here.invariant.counted)
