use Rattle.std.proofs.Common.{◌≡◌, [], ◌∷◌, ◌++◌, length, replicate, refl, sym, ap, ◌∙◌, arith}
use Rattle.std.proofs.lemmas.List.{length-map, replicate_more}
use Rattle.std.proofs.lemmas.Result.{err_from_is_err_and}
use Rattle.nv_claimcore.specs.Replay.{lists}
use Rattle.nv_claimcore.proofs.Begins.{first_pace, begins}
use Rattle.nv_claimcore.proofs.schedule.Progress.new.Goals as goal

pub returns-in_err-state : goal.returns-in_err-state
returns-in_err-state c = let w = err_from_is_err_and c.from_residual.result c.from_residual.ensures.1 in rw w.1 tt

pub loop-init : goal.loop-init
loop-init c = (omega arith, refl, c.new-paces.ensures.items)

pub returns-in_err-push : goal.returns-in_err-push
returns-in_err-push c = let w = err_from_is_err_and c.from_residual-in_err-push.result c.from_residual-in_err-push.ensures.1 in rw w.1 tt

pub loop-preserved : goal.loop-preserved
loop-preserved c = let l = c.loop.invariant in let more = c.loop-test.true in (
  omega arith,
  l.1,
  c.in_ok-push.ensures.items ∙ ap (λ ps. ps ++ first_pace (length c.args.work.now) ∷ []) l.2 ∙ replicate_more c.loop.counter (first_pace (length c.args.work.now)),
)

pub returns : goal.returns
returns c =
    let l = c.loop.invariant in let done = c.loop-test.false in
    let all : c.loop.counter ≡ c.args.sizes.workers = omega arith in
    let paced = l.2 ∙ ap (λ n. replicate n (first_pace (length c.args.work.now))) all ∙ ap (λ t. replicate c.args.sizes.workers (first_pace t)) (sym c.requires.tickets) in (
      refl,
      c.in_ok-state.ensures,
      begins c.args.sizes (lists c.args.work.now) (c.requires.tickets ∙ sym (length-map c.args.work.now (λ v. v.items))) c.requires.inside c.requires.fits c.in_ok-state.state c.loop.paces.items c.in_ok-state.ensures paced,
    )
