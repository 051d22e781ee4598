use Rattle.std.proofs.Common.{◌≡◌, ◌-◌, ◌≤◌}
use Rattle.std.specs.List.{All}
use Rattle.nv_super.specs.Owners.{pairs}
use Rattle.nv_claimcore.specs.Claims.{Settled}
use Rattle.nv_claimcore.specs.Spans.{Adds}
use Rattle.nv_claimmap.proofs.steps.claim_words.Given as goal

abbrev pub invariant-loop-done : goal.invariant-loop-done
invariant-loop-done l = (l.done ≤ l.run.count) × (l.seat.table_id ≡ l.fn.seat.table_id) × (l.seat.id ≡ l.fn.seat.id) × (l.seat.me.1 ≡ l.fn.seat.me.1)
    × Adds (pairs l.run.start l.owner l.done) l.fn.seat.me.0 l.seat.me.0 × All Settled l.seat.me.0.records

abbrev pub decreases-loop-done : goal.decreases-loop-done
decreases-loop-done l = l.run.count - l.done
