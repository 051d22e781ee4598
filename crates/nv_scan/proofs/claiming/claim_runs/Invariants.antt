use Rattle.std.proofs.Common.{◌≡◌, take}
use Rattle.nv_claimcore.specs.Spans.{Adds}
use Rattle.nv_scan.specs.Claims.{data_claims}
use Rattle.nv_scan.proofs.claiming.claim_runs.Given as goal

abbrev pub invariant-loop-extent : goal.invariant-loop-extent
invariant-loop-extent l = record {
  map : l.seat.map ≡ l.map;
  number : l.seat.number ≡ l.fn.seat.number;
  adds : Adds (data_claims l.inode (take l.extent-index l.runs)) l.fn.seat.view l.seat.view;
}
