use Rattle.std.proofs.Common.{◌≡◌, ◌≤◌, true, length}
use Rattle.nv_claimcore.specs.Events.{all_allowed}
use Rattle.nv_claimcore.specs.SpanEvents.{sizes_of, low_marks}
use Rattle.nv_claimcore.proofs.state.ClaimState.refused_mark.Given as goal

abbrev pub invariant-loop-bit : goal.invariant-loop-bit
invariant-loop-bit l = (l.bit ≤ 64) × (l.place ≤ l.bit) × (l.place ≡ length (low_marks l.worker l.word l.mask l.bit)) × (all_allowed (sizes_of l.self) l.self (low_marks l.worker l.word l.mask l.bit) ≡ true)
