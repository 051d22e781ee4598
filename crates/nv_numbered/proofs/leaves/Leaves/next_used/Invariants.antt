use Rattle.std.proofs.Common.{◌≡◌, ◌-◌, ◌<◌, ◌≤◌, ℕ, slice_index}
use Rattle.nv_numbered.proofs.leaves.Leaves.next_used.Given as goal

-- the words up to here are 0
abbrev pub invariant-loop-place : goal.invariant-loop-place
invariant-loop-place l = (l.fn.from ≤ l.place) × ((k : ℕ) → l.fn.from ≤ k → k < l.place → slice_index l.fn.self.items k ≡ 0)

abbrev pub decreases-loop-place : goal.decreases-loop-place
decreases-loop-place l = l.self-inside.len - l.place
