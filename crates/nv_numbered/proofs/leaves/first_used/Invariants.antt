use Rattle.std.proofs.Common.{◌≡◌, ◌≤◌, ◌<◌, ◌-◌, ℕ, length, slice_index}
use Rattle.nv_numbered.proofs.leaves.first_used.Given as goal

-- the words up to here are 0
abbrev pub invariant-loop-offset : goal.invariant-loop-offset
invariant-loop-offset l = (l.fn.from ≤ l.offset) × ((k : ℕ) → l.fn.from ≤ k → k < l.offset → slice_index l.leaf k ≡ 0)

abbrev pub decreases-loop-offset : goal.decreases-loop-offset
decreases-loop-offset l = length l.leaf - l.offset
