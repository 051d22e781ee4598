use Rattle.std.proofs.Common.{◌≡◌, ◌-◌, ◌≤◌}
use Rattle.nv_numbered.proofs.chunks.Chunks.reserve.Given as goal

abbrev pub invariant-loop-self : goal.invariant-loop-self
invariant-loop-self g l = (l.self.items ≡ l.fn.self.items) × (l.fn.self.room ≤ l.self.room)

abbrev pub decreases-loop-self : goal.decreases-loop-self
decreases-loop-self g l = l.more - l.self.room
