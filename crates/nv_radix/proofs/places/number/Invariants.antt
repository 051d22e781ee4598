use Rattle.std.proofs.Common.{◌≡◌, ℕ, ◌+◌, ◌<◌, slice_index}
use Rattle.nv_radix.proofs.places.number.Given as goal

abbrev pub invariant-loop-step : goal.invariant-loop-step
invariant-loop-step l = (p : ℕ) → p < l.step → slice_index l.places p ≡ l.first + p
