use Rattle.std.proofs.Common.{ℕ, ◌+◌, ◌++◌, sym, ap, ◌∙◌, subst, arith}
use Rattle.std.specs.List.{All}
use Rattle.atomic_table.specs.Table.{Me}
use Rattle.nv_super.specs.declared.owners.Owner.{Owner}
use Rattle.nv_super.specs.Owners.{raised, pairs}
use Rattle.nv_claimcore.specs.declared.view.View.{View}
use Rattle.nv_claimcore.specs.Claims.{Settled}
use Rattle.nv_claimcore.specs.Spans.{settle}
use Rattle.nv_claimcore.proofs.Parts.{adds_part, settled_part}
use Rattle.nv_claimmap.proofs.steps.claim_words.Goals as goal

pub loop-done-preserved : goal.loop-done-preserved
loop-done-preserved c = let l = c.loop-done.invariant in let less = c.loop-done-test.true in let count = c.min-count.ensures in
    let n = c.claim_part.ensures.me.0 in let u : View = c.loop-done.seat.me.0 in
    let me = c.claim_part.ensures.me.1 ∙ ap (λ (o : Owner). (record { seats = c.loop-done.seat.me.0.seats; numbers = c.loop-done.seat.me.0.numbers; records = c.loop-done.seat.me.0.records ++ settle c.claim_part.ensures.me.0 (pairs (c.args.run.start + c.loop-done.done) o c.min-count.result) }, c.loop-done.seat.me.1)) c.raised.ensures in
    let view = ap (λ (m : Me ℕ View). m.0) me in (
      omega arith,
      c.claim_part.ensures.same.0 ∙ l.1,
      c.claim_part.ensures.same.1 ∙ l.2,
      ap (λ (m : Me ℕ View). m.1) me ∙ l.3,
      adds_part c.args.run.start c.args.owner c.loop-done.done c.min-count.result n c.args.seat.now.me.0 c.loop-done.seat.me.0 c.claim_part.new.seat.me.0 l.4 view,
      subst (All Settled) (sym (ap (λ (v : View). v.records) view)) (settled_part n (pairs (c.args.run.start + c.loop-done.done) (raised c.args.owner c.loop-done.done) c.min-count.result) c.loop-done.seat.me.0.records l.5),
    )
