use Rattle.std.proofs.lemmas.Result.{IfOk-weaker}
use Rattle.nv_session.proofs.session.Session.put_front.Goals as goal

pub returns : goal.returns
returns c = IfOk-weaker c.ok_text.result _ _ (λ text said. (said, c.in_ok-front.front, c.in_ok-front.ensures.region, c.in_ok-front.ensures.settled, c.put.ensures)) c.ok_text.ensures
