use Rattle.std.proofs.Common.{sym, subst, List, Bool}
use Rattle.std.proofs.lemmas.Result.{on_ok_weaker}
use Rattle.nv_cross_check.specs.Steps.{AreReached}
use Rattle.nv_cross_check.proofs.Together.{far_added}
use Rattle.nv_cross_check.proofs.walk.push_far.Goals as goal

pub returns : goal.returns
returns c =
    let P : List Bool → Type 0 = λ ms. AreReached c.args.listings.now ms in
    on_ok_weaker c.push_no_root.result (far_added _ _ _ _ _ (subst P (sym c.deref.ensures.value) c.in_ok-marks.ensures) c.in_ok-push_unreached.ensures) c.push_no_root.ensures
