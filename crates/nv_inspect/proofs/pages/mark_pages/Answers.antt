use Rattle.std.proofs.Common.{◌<◌, ◌∙◌, sym, refl, arith}
use Rattle.nv_inspect.proofs.Stretches.{front_all, front_more, front_none, front_open}
use Rattle.nv_inspect.proofs.pages.mark_pages.Goals as goal

pub loop-end-init : goal.loop-end-init
loop-end-init c = (omega arith, front_none c.args.pieces.now.entries c.args.first c.args.end c.args.by c.args.first c.args.takers.now refl)

pub loop-end-preserved : goal.loop-end-preserved
loop-end-preserved c =
    let so_far = c.loop-end.invariant in
    let here = c.stretch_at-here.result in
    let ahead : c.loop-end.page < c.in-Some.next = rw c.in-Some.is at c.stretch_at-here.ensures.ahead in
    let from = so_far.0 in (
      omega (arith, from, ahead),
      front_more c.args.pieces.now.entries c.args.first c.args.end c.args.by c.loop-end.page here.end here.piece so_far.0 (sym c.is_before.ensures ∙ c.loop-end-test.true) c.stretch_at-here.ensures.piece c.stretch_at-here.ensures.same
          c.args.takers.now c.loop-end.takers c.mark.new.takers so_far.1 c.mark.ensures c.in-Some.next c.in-Some.is ahead,
    )

pub returns-in-None : goal.returns-in-None
returns-in-None c =
    let so_far = c.loop-end.invariant in
    let here = c.stretch_at-here.result in
    front_open c.args.pieces.now.entries c.args.first c.args.end c.args.by c.loop-end.page here.end here.piece so_far.0 (sym c.is_before.ensures ∙ c.loop-end-test.true) c.stretch_at-here.ensures.piece c.stretch_at-here.ensures.same
    c.args.takers.now c.loop-end.takers c.mark.new.takers so_far.1 c.mark.ensures c.in-None.is

pub returns : goal.returns
returns c = front_all c.args.pieces.now.entries c.args.first c.args.end c.args.by c.loop-end.page c.args.takers.now c.loop-end.takers (sym c.is_before.ensures ∙ c.loop-end-test.false) c.loop-end.invariant.1
