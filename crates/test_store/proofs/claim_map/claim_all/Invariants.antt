use Rattle.std.proofs.Common.{◌≡◌}
use Rattle.test_store.proofs.claim_map.claim_all.Given as goal

abbrev pub invariant-loop-start : goal.invariant-loop-start
invariant-loop-start l = (l.seat.map ≡ l.map) × (l.seat.view.seats ≡ l.fn.seat.view.seats)
