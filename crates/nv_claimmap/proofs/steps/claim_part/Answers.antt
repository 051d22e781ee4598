use Rattle.std.proofs.Common.{◌≡◌, ℕ, ◌%◌, List, [], sym, ap, ◌∙◌, subst}
use Rattle.std.specs.Prelude.{bit_and}
use Rattle.atomic_table.specs.Table.{Me}
use Rattle.nv_super.specs.declared.owners.Owner.{Owner}
use Rattle.nv_super.specs.Owners.{pairs}
use Rattle.nv_claimcore.specs.declared.view.View.{View}
use Rattle.nv_claimcore.specs.Spans.{claim_all, mark_all, lost_in, AreUnmarked}
use Rattle.nv_claimcore.proofs.WordRuns.{run_mask, run_bits, lost_mask, lost_unmarked, both_steps, none_lost}
use Rattle.nv_claimmap.proofs.steps.claim_part.Goals as goal

pub claim_step-found-requires-clause-mask : goal.claim_step-found-requires-clause-mask
claim_step-found-requires-clause-mask c = run_bits (c.args.start % 64) c.args.count c.requires.run.0

pub mark_step-requires-clause-lost : goal.mark_step-requires-clause-lost
mark_step-requires-clause-lost c = ap (bit_and c.claim_step-found.result) (run_bits (c.args.start % 64) c.args.count c.requires.run.0)

pub mark_step-requires-clause-unmarked : goal.mark_step-requires-clause-unmarked
mark_step-requires-clause-unmarked c = let ps = pairs c.args.start c.args.owner c.args.count in
    subst (AreUnmarked (lost_in c.claim_step-found.result ps)) (sym (ap (λ (m : Me ℕ View). m.0) c.claim_step-found.ensures.me)) (lost_unmarked c.claim_step-found.result ps c.args.seat.now.me.0 c.requires.seat.1)

pub returns-then-lost-ne0-clause-me : goal.returns-then-lost-ne0-clause-me
returns-then-lost-ne0-clause-me c = let ps = pairs c.args.start c.args.owner c.args.count in let n = c.claim_step-found.result in (
  n,
  c.mark_step.ensures.me ∙ (ap (λ (m : Me ℕ View). (mark_all (lost_in n ps) m.0, m.1)) c.claim_step-found.ensures.me ∙ ap (λ (v : View). (v, c.args.seat.now.me.1)) (both_steps n ps c.args.seat.now.me.0 c.requires.seat.1)),
)

pub returns-else-lost-ne0-clause-me : goal.returns-else-lost-ne0-clause-me
returns-else-lost-ne0-clause-me c = let ps = pairs c.args.start c.args.owner c.args.count in let n = c.claim_step-found.result in
    let none : lost_in n ps ≡ [] = none_lost (lost_in n ps) (lost_mask n ps ∙ (ap (bit_and n) (run_mask c.args.start c.args.owner c.args.count c.requires.run.0 ∙ sym (run_bits (c.args.start % 64) c.args.count c.requires.run.0)) ∙ c.if-lost-ne0.false)) in (
      n,
      c.claim_step-found.ensures.me ∙ ap (λ (v : View). (v, c.args.seat.now.me.1)) (ap (λ (qs : List (ℕ × Owner)). mark_all qs (claim_all n ps c.args.seat.now.me.0)) (sym none) ∙ both_steps n ps c.args.seat.now.me.0 c.requires.seat.1),
    )
