use Rattle.std.proofs.Common.{◌+◌, Bool, subst}
use Rattle.nv_claimcore.specs.Replay.{lists}
use Rattle.nv_claimcore.specs.Turns.{TookTurn}
use Rattle.nv_claimcore.proofs.Courses.{more_own, ran}
use Rattle.nv_claimcore.proofs.schedule.Progress.finish.Goals as goal

pub loop-preserved : goal.loop-preserved
loop-preserved c = (c.loop.invariant.0 + 1, more_own (lists c.args.work.now) c.loop.invariant.0 c.args.worker c.args.self.now c.loop.self c.step.new.self c.in_ok-step.field-0 c.loop.invariant.1 c.in_ok-step.ensures)

pub returns : goal.returns
returns c = ran (lists c.args.work.now) c.loop.invariant.0 c.args.worker c.args.self.now c.loop.self c.step.new.self c.loop.invariant.1
    (subst (λ (t : Bool). TookTurn (lists c.args.work.now) c.args.worker c.loop.self c.step.new.self t) c.if-branch.false c.in_ok-step.ensures)
