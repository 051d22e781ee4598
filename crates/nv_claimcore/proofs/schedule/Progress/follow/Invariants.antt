use Rattle.std.proofs.Common.{take}
use Rattle.nv_claimcore.specs.Replay.{lists}
use Rattle.nv_claimcore.specs.Turns.{TookTurns}
use Rattle.nv_claimcore.proofs.schedule.Progress.follow.Given as goal

abbrev pub invariant-loop-worker : goal.invariant-loop-worker
invariant-loop-worker l = TookTurns (lists l.work) (take l.worker-index l.schedule) l.initial.self l.self
