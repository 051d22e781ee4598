use Rattle.std.proofs.lemmas.Result.{IfOk-weaker}
use Rattle.nv_line.specs.View.{view}
use Rattle.nv_session.proofs.Moved.{disarmed_moves}
use Rattle.nv_session.proofs.session.Session.execute.Goals as goal

pub returns : goal.returns
returns g c = IfOk-weaker c.run.result _ _ (λ text moves. disarmed_moves c.disarm-stop.result (view c.args.command) c.args.self.now c.disarm-stop.new.self c.run.new.self _ c.disarm-stop.ensures.stop c.disarm-stop.ensures.rest c.disarm-stop.ensures.none moves) c.run.ensures
