use Rattle.std.proofs.Common.{◌≡◌, take}
use Rattle.nv_claimcore.specs.Spans.{Adds}
use Rattle.nv_scan.specs.Work.{claims_among}
use Rattle.nv_scan.proofs.claiming.claim_each.Given as goal

abbrev pub invariant-loop-claims : goal.invariant-loop-claims
invariant-loop-claims l = record {
  map : l.seat.map ≡ l.map;
  number : l.seat.number ≡ l.fn.seat.number;
  seats : l.seat.view.seats ≡ l.fn.seat.view.seats;
  adds : Adds (claims_among (take l.claims-index l.each)) l.fn.seat.view l.seat.view;
}
