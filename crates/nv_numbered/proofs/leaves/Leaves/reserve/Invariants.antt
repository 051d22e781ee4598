use Rattle.std.proofs.Common.{◌≡◌, ◌-◌, ◌≤◌}
use Rattle.nv_numbered.proofs.leaves.Leaves.reserve.Given as goal

-- the words are the same, and the room has grown
abbrev pub invariant-loop-self : goal.invariant-loop-self
invariant-loop-self l = (l.self.items ≡ l.fn.self.items) × (l.fn.self.room ≤ l.self.room)

abbrev pub decreases-loop-self : goal.decreases-loop-self
decreases-loop-self l = l.more - l.self.room
