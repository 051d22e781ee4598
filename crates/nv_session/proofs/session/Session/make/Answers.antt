use Rattle.std.proofs.Common.{string_bytes}
use Rattle.std.proofs.lemmas.Result.{IfOk-weaker}
use Rattle.nv_history.specs.Said.{said}
use Rattle.nv_session.specs.Sessions.{is_armed}
use Rattle.nv_session.proofs.MadeCalls.{made_moves, unmade_moves}
use Rattle.nv_session.proofs.session.Session.make.Goals as goal

pub returns : goal.returns
returns c = IfOk-weaker c.settle_call.result _ _ (λ text settles request is. made_moves c.args.stop.fuse c.args.self.now c.take_mount.new.self c.settle_call.new.self c.in-Some.mount c.make_call-answer.new.mount c.make_call-answer.result (string_bytes text)
    (rw c.in-Some.is at c.take_mount.ensures) c.keeps.ensures c.settle_call.ensures.keeps c.settle_call.ensures.settled settles request (said c.args.call.now) is c.make_call-answer.ensures) c.settle_call.ensures.settles

pub returns-in_default : goal.returns-in_default
returns-in_default c = IfOk-weaker c.refused_text.result _ _ (λ text said_so request is. unmade_moves (is_armed c.args.stop) c.args.stop.fuse c.args.self.now c.take_mount.new.self (string_bytes text) (rw c.in_default.is at c.take_mount.ensures) said_so
    c.args.self.now.time request (said c.args.call.now) is) c.refused_text.ensures
