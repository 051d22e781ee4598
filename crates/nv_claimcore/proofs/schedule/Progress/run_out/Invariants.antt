use Rattle.nv_claimcore.specs.Replay.{lists}
use Rattle.nv_claimcore.specs.Turns.{RanInOrder}
use Rattle.nv_claimcore.proofs.schedule.Progress.run_out.Given as goal

abbrev pub invariant-loop-worker : goal.invariant-loop-worker
invariant-loop-worker l = RanInOrder (lists l.work) l.worker l.initial.self l.self
