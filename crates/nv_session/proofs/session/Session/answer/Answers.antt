use Rattle.std.proofs.lemmas.Result.{IfOk-weaker}
use Rattle.nv_line.specs.Request.{Read}
use Rattle.nv_session.proofs.Moved.{disarmed_moves}
use Rattle.nv_session.proofs.session.Session.answer.Goals as goal

pub returns-in-Read : goal.returns-in-Read
returns-in-Read g c = rw c.in-Read.is (IfOk-weaker c.answer_read.result _ _ (λ printed w. (
  w.0,
  w.1,
  disarmed_moves c.disarm.result (Read c.in-Read.path.now c.in-Read.offset c.in-Read.count) c.args.self.now c.disarm.new.self c.disarm.new.self w.0 c.disarm.ensures.stop c.disarm.ensures.rest c.disarm.ensures.none w.2,
)) c.answer_read.ensures)
