use Rattle.std.proofs.Common.{◌≡◌, ◌++◌, ◌≤◌, length, reverse}
use Rattle.nv_numbered.proofs.chunks.Chunks.push_all.Given as goal

-- the values that are left stand last first
abbrev pub invariant-loop-value : goal.invariant-loop-value
invariant-loop-value g l =
    (l.self.items ++ reverse l.values.items ≡ l.fn.self.items ++ l.fn.values.items)
    × (length l.values.items ≤ l.self.room)

abbrev pub decreases-loop-value : goal.decreases-loop-value
decreases-loop-value g l = goal.left-loop-value g l
