use Rattle.std.proofs.Common.{◌≡◌, ◌-◌}
use Rattle.nv_claimcore.specs.Claims.{above}
use Rattle.test_store.proofs.claim_map.draw_all.Given as goal

abbrev pub invariant-loop-ticket : goal.invariant-loop-ticket
invariant-loop-ticket l = (l.seat.map ≡ l.map) × (l.seat.view.seats ≡ l.fn.seat.view.seats)

abbrev pub decreases-loop-ticket : goal.decreases-loop-ticket
decreases-loop-ticket l = l.map.sizes.tickets - above l.seat.view.numbers
