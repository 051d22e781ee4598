use Rattle.std.proofs.Common.{◌≢◌, inr, rules}
use Rattle.std.proofs.lemmas.Result.{IfOk-weaker}
use Rattle.nv_tree.specs.declared.refusal.Refusal.TheVariants.{Stopped}
use Rattle.nv_session.proofs.session.Session.settle_call.Goals as goal

pub returns-in-Err-clause-settles : goal.returns-in-Err-clause-settles
returns-in-Err-clause-settles c =
    let running : c.in-Err.refusal ≢ Stopped = search rules in
    IfOk-weaker c.refused_call_text.result _ _ (λ text h. rw c.in-Err.is (inr (running, h.0, h.1, c.put_mount-in-Err.ensures))) c.refused_call_text.ensures
