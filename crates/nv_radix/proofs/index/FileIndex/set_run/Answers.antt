use Rattle.std.proofs.Common.{◌≡◌, ◌+◌, ◌-◌, Some, cond, refl, ap, ◌∙◌, arith, inl, inr}
use Rattle.std.proofs.lemmas.Bool.{cases_lt}
use Rattle.nv_radix.specs.Pages.{block_at, in_run}
use Rattle.nv_radix.proofs.Halves.{no_run, longer_run}
use Rattle.nv_radix.proofs.index.FileIndex.set_run.Goals as goal

pub loop-done-init : goal.loop-done-init
loop-done-init c = (omega arith, λ l. absurd (omega (arith, l)), λ p. no_run c.args.page p _ _, λ p. refl)

pub overflow_add-page : goal.overflow_add-page
overflow_add-page c = elim (cases_lt 0 c.loop-done.done) [
  | inl l ↦ (let bound = c.loop-done.invariant.1 l in omega (arith, bound))
  | inr l ↦ omega (arith, l, c.ranges.page)
]

pub overflow_add-page-in-loop-done : goal.overflow_add-page-in-loop-done
overflow_add-page-in-loop-done c = elim (cases_lt 0 c.loop-done.done) [
  | inl l ↦ (let bound = c.loop-done.invariant.1 l in omega (arith, bound))
  | inr l ↦ omega (arith, l, c.ranges.page)
]

pub set_part-requires-clause-ready : goal.set_part-requires-clause-ready
set_part-requires-clause-ready c = λ p l h. c.loop-done.invariant.3 p ∙ c.requires.ready p (omega (arith, l)) (omega (arith, h, c.min-part.ensures, c.loop-done-test.true))

pub set_part-requires-clause-some : goal.set_part-requires-clause-some
set_part-requires-clause-some c = omega (arith, c.min-part.ensures, c.loop-done-test.true)

pub loop-done-preserved : goal.loop-done-preserved
loop-done-preserved c =
    let part = c.min-part.result in
    let at = c.args.page + c.loop-done.done in (
      omega (arith, c.min-part.ensures, c.loop-done-test.true),
      λ l. omega (arith, c.set_part.ensures.bound, c.min-part.ensures),
      λ p. c.set_part.ensures.blocks p ∙ ap (λ o. cond (in_run at part p) (Some (c.args.block + c.loop-done.done + (p - at))) o) (c.loop-done.invariant.2 p) ∙ longer_run c.args.page c.args.block c.loop-done.done part p (block_at c.args.self.now p),
      λ p. c.set_part.ensures.ready p ∙ c.loop-done.invariant.3 p,
    )

pub returns-clause-blocks : goal.returns-clause-blocks
returns-clause-blocks c = (let all : c.loop-done.done ≡ c.args.count = omega (arith, c.loop-done.invariant.0, c.loop-done-test.false) in λ p. c.loop-done.invariant.2 p ∙ ap (λ n. cond (in_run c.args.page n p) (Some (c.args.block + (p - c.args.page))) (block_at c.args.self.now p)) all)

pub returns-clause-ready : goal.returns-clause-ready
returns-clause-ready c = c.loop-done.invariant.3
