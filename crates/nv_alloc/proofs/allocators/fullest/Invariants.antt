use Rattle.std.proofs.Common.{◌<◌, ◌≤◌, ℕ, length}
use Rattle.nv_alloc.specs.Inside.{size_at}
use Rattle.nv_alloc.proofs.allocators.fullest.Given as goal

abbrev pub invariant-loop-place : goal.invariant-loop-place
invariant-loop-place l = (l.best < length l.pools) × ((d : ℕ) → d < l.place → size_at l.pools d ≤ size_at l.pools l.best) × ((d : ℕ) → d < l.best → size_at l.pools d < size_at l.pools l.best)
