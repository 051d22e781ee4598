use Rattle.std.proofs.Common.{◌≡◌, ℕ, ◌+◌, ◌<◌, List, true, false, ◌≤◌, take, length, length-take, get_or, refl, sym, ap, ◌∙◌, subst, arith}
use Rattle.std.proofs.lemmas.List.{take_more, take_all}
use Rattle.std.proofs.lemmas.Result.{err_from_is_err_and}
use mathlib.Core.Bool.{Bool, ◌&&◌}
use Rattle.nv_claimcore.specs.declared.view.Sizes.{Sizes}
use Rattle.nv_claimcore.specs.declared.event.Event.{Event}
use Rattle.nv_claimcore.specs.declared.event.Event.TheVariants.{Draw}
use Rattle.nv_claimcore.specs.Claims.{State, Legal}
use Rattle.nv_claimcore.specs.Events.{start, is_allowed, after, all_allowed, after_all}
use Rattle.nv_claimcore.proofs.Lists.{every_list, allowed_more, after_more, cursor_most}
use Rattle.nv_claimcore.proofs.history.run.Goals as goal

-- what the turns before leave
legal : (z : Sizes) (es : List Event) (s : State) (k : ℕ) → all_allowed z (start z) (take k es) ≡ true → s ≡ after_all (start z) (take k es) → Legal z s
legal z es s k ok is = subst (Legal z) (sym is) (every_list z (take k es) ok)

-- whether the events are allowed up to and with the k-th
next : (z : Sizes) (es : List Event) (s : State) (k : ℕ) (b : Bool) → k < length es → all_allowed z (start z) (take k es) ≡ true → s ≡ after_all (start z) (take k es) → is_allowed z s (get_or es k (Draw 0)) ≡ b
    → all_allowed z (start z) (take (k + 1) es) ≡ b
next z es s k b l ok is one = ap (all_allowed z (start z)) (take_more es k (Draw 0) l) ∙ (allowed_more z (start z) (take k es) (get_or es k (Draw 0))
    ∙ ((λ i. ok i && is_allowed z (sym is i) (get_or es k (Draw 0))) ∙ one))

pub allows-requires : goal.allows-requires
allows-requires c = let l = c.loop-place.invariant in (legal c.args.sizes c.args.events.now c.loop-place.state c.loop-place.place l.1 l.2).first_words

pub returns-then-not-allows-clause-refused : goal.returns-then-not-allows-clause-refused
returns-then-not-allows-clause-refused c = let l = c.loop-place.invariant in (c.loop-place-test.true, l.1, next c.args.sizes c.args.events.now c.loop-place.state c.loop-place.place false c.loop-place-test.true l.1 l.2 (sym c.allows.ensures ∙ c.if-not-allows.true))

pub step-requires : goal.step-requires
step-requires c = let l = c.loop-place.invariant in let keeps = legal c.args.sizes c.args.events.now c.loop-place.state c.loop-place.place l.1 l.2 in let most = cursor_most (take c.loop-place.place c.args.events.now) (start c.args.sizes) in let cursor = ap (λ (s : State). s.cursor) l.2 in
    let short : length (take c.loop-place.place c.args.events.now) ≤ c.loop-place.place = omega (arith, length-take c.loop-place.place c.args.events.now) in (
      keeps,
      sym c.allows.ensures ∙ c.if-not-allows.false,
      omega arith,
    )

pub loop-place-preserved : goal.loop-place-preserved
loop-place-preserved c = let l = c.loop-place.invariant in let more = c.loop-place-test.true in (
  omega arith,
  next c.args.sizes c.args.events.now c.loop-place.state c.loop-place.place true c.loop-place-test.true l.1 l.2 (sym c.allows.ensures ∙ c.if-not-allows.false),
  c.in_ok-step.ensures.ok ∙ (ap (λ (s : State). after s (get_or c.args.events.now c.loop-place.place (Draw 0))) l.2 ∙ (sym (after_more (start c.args.sizes) (take c.loop-place.place c.args.events.now) (get_or c.args.events.now c.loop-place.place (Draw 0)))
      ∙ ap (after_all (start c.args.sizes)) (sym (take_more c.args.events.now c.loop-place.place (Draw 0) more)))),
)

pub returns-clause-legal : goal.returns-clause-legal
returns-clause-legal c = let l = c.loop-place.invariant in legal c.args.sizes c.args.events.now c.loop-place.state c.loop-place.place l.1 l.2

pub returns-in_err-state-clause-allowed : goal.returns-in_err-state-clause-allowed
returns-in_err-state-clause-allowed c = let w = err_from_is_err_and c.from_residual.result c.from_residual.ensures.1 in rw w.1 tt

pub returns-in_err-state-clause-state : goal.returns-in_err-state-clause-state
returns-in_err-state-clause-state c = let w = err_from_is_err_and c.from_residual.result c.from_residual.ensures.1 in rw w.1 tt

pub returns-in_err-state-clause-legal : goal.returns-in_err-state-clause-legal
returns-in_err-state-clause-legal c = let w = err_from_is_err_and c.from_residual.result c.from_residual.ensures.1 in rw w.1 tt

pub returns-in_err-state-clause-refused : goal.returns-in_err-state-clause-refused
returns-in_err-state-clause-refused c = let w = err_from_is_err_and c.from_residual.result c.from_residual.ensures.1 in rw (w.1, w.2) tt

pub returns-in_err-step-clause-allowed : goal.returns-in_err-step-clause-allowed
returns-in_err-step-clause-allowed c = let w = err_from_is_err_and c.from_residual-in_err-step.result c.from_residual-in_err-step.ensures.1 in rw w.1 tt

pub returns-in_err-step-clause-state : goal.returns-in_err-step-clause-state
returns-in_err-step-clause-state c = let w = err_from_is_err_and c.from_residual-in_err-step.result c.from_residual-in_err-step.ensures.1 in rw w.1 tt

pub returns-in_err-step-clause-legal : goal.returns-in_err-step-clause-legal
returns-in_err-step-clause-legal c = let w = err_from_is_err_and c.from_residual-in_err-step.result c.from_residual-in_err-step.ensures.1 in rw w.1 tt

pub returns-in_err-step-clause-refused : goal.returns-in_err-step-clause-refused
returns-in_err-step-clause-refused c = let w = err_from_is_err_and c.from_residual-in_err-step.result c.from_residual-in_err-step.ensures.1 in rw (w.1, w.2) tt

pub loop-place-init : goal.loop-place-init
loop-place-init c = (omega arith, refl, c.in_ok-state.ensures)

pub returns-clause-allowed : goal.returns-clause-allowed
returns-clause-allowed c =
    let done = c.loop-place-test.false in
    ap (all_allowed c.args.sizes (start c.args.sizes)) (sym (take_all c.loop-place.place c.args.events.now (omega arith))) ∙ c.loop-place.invariant.1

pub returns-clause-state : goal.returns-clause-state
returns-clause-state c =
    let done = c.loop-place-test.false in
    c.loop-place.invariant.2 ∙ ap (after_all (start c.args.sizes)) (take_all c.loop-place.place c.args.events.now (omega arith))
