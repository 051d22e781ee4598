use Rattle.std.proofs.Common.{ℕ, replicate}
use Rattle.nv_claimcore.specs.Replay.{lists}
use Rattle.nv_claimcore.specs.Pace.{pace_of, effort}
use Rattle.nv_claimcore.specs.Turns.{TookTurns}
use Rattle.nv_claimcore.proofs.schedule.Progress.finish.Given as goal

abbrev pub invariant-loop : goal.invariant-loop
invariant-loop l = (turns : ℕ) × TookTurns (lists l.work) (replicate turns l.worker) l.initial.self l.self

abbrev pub decreases-loop : goal.decreases-loop
decreases-loop l = effort (lists l.work) l.self.state.cursor (pace_of l.self.paces.items l.worker)
