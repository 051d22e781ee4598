use Rattle.std.proofs.lemmas.Result.{IfOk-weaker}
use Rattle.nv_session.specs.Sessions.{is_armed}
use Rattle.nv_session.proofs.Moved.{makes_moves, format_stopped_moves}
use Rattle.nv_session.proofs.session.Session.format.Goals as goal

pub returns-in-Region : goal.returns-in-Region
returns-in-Region c =
    let made = rw c.in-Region.is at c.in_ok-memory.ensures in
    IfOk-weaker c.ok_text.result _ _ (λ text said. makes_moves (is_armed c.args.stop) c.args.cpus c.args.blocks c.args.table_blocks c.in-Region.memory c.args.self.now c.put.new.self _ made.0 made.1 c.put.ensures said) c.ok_text.ensures

pub returns-in-Stopped : goal.returns-in-Stopped
returns-in-Stopped c =
    let made = rw c.in-Stopped.is at c.in_ok-memory.ensures in
    IfOk-weaker c.stopped_text.result _ _ (λ text said. format_stopped_moves (is_armed c.args.stop) c.args.cpus c.args.blocks c.args.table_blocks c.in-Stopped.memory c.args.self.now c.put-in-Stopped.new.self _ made c.put-in-Stopped.ensures said) c.stopped_text.ensures
