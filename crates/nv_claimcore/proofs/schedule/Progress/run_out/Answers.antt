use Rattle.std.proofs.Common.{arith}
use Rattle.nv_claimcore.specs.Replay.{lists}
use Rattle.nv_claimcore.proofs.Courses.{more_ran}
use Rattle.nv_claimcore.proofs.schedule.Progress.run_out.Goals as goal

pub loop-worker-preserved : goal.loop-worker-preserved
loop-worker-preserved c = let here = c.loop-worker-test.true in let all = c.requires.all in
    more_ran (lists c.args.work.now) c.loop-worker.worker c.args.self.now c.loop-worker.self c.finish.new.self (omega arith) c.loop-worker.invariant c.in_ok-finish.ensures
