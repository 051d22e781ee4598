use Rattle.std.proofs.Common.{◌≡◌, ◌≤◌}
use Rattle.nv_claimcore.specs.Events.{after_all}
use Rattle.nv_claimcore.specs.SpanEvents.{low_marks}
use Rattle.nv_claimcore.proofs.state.ClaimState.mark_all.Given as goal

abbrev pub invariant-loop-bit : goal.invariant-loop-bit
invariant-loop-bit l = (l.bit ≤ 64) × (l.self ≡ after_all l.fn.self (low_marks l.worker l.word l.mask l.bit))
