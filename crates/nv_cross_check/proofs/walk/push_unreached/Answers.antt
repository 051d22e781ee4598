use Rattle.std.proofs.Common.{◌≡◌, ◌++◌, ◌∷◌, [], ℕ, ◌∙◌, ◌<◌, ap, sym, subst}
use Rattle.std.proofs.lemmas.Result.{IfOk-from_err}
use Rattle.nv_super.specs.declared.faults.Fault.TheVariants as faults
use Rattle.nv_cross_check.proofs.Adds.{adds_one, adds_skip}
use Rattle.nv_cross_check.proofs.walk.push_unreached.Goals as goal
use Rattle.nv_cross_check.proofs.walk.push_unreached.Goals.{then-not-marks-place+in_ok-push, else-not-marks-place}

pub loop-place-preserved : goal.loop-place-preserved
loop-place-preserved c =
    elim c.if-not-marks-place.branch [
      | then-not-marks-place+in_ok-push w ↦
          (let here = w.head.ensures in
          let e : c.if-not-marks-place.faults.items ≡ c.loop-place.faults.items ++ faults.C4 here.0.inode ∷ [] =
          ap (λ v. v.items) w.faults-is ∙ w.in_ok-push.ensures.items ∙ ap (λ i. c.loop-place.faults.items ++ faults.C4 i ∷ []) here.2 in
          rw e (adds_one _ _ _ _ _ _ here.1 w.if-not-marks-place.true c.loop-place.invariant))
      | else-not-marks-place w ↦
          (let e : c.if-not-marks-place.faults.items ≡ c.loop-place.faults.items = ap (λ v. v.items) w.faults-is in
          rw e (adds_skip _ _ _ _ _ w.if-not-marks-place.false c.loop-place.invariant))
    ]

pub bounds-marks-place : goal.bounds-marks-place
bounds-marks-place c = subst (λ (n : ℕ). c.loop-place.place < n) (c.len-place-end.ensures ∙ sym c.requires) c.loop-place-test.true

pub returns-in_err-push : goal.returns-in_err-push
returns-in_err-push c = IfOk-from_err c.from_residual.result _ c.from_residual.ensures.0
