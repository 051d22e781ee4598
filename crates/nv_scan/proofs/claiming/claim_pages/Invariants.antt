use Rattle.std.proofs.Common.{◌≡◌, take}
use Rattle.nv_claimcore.specs.Spans.{Adds}
use Rattle.nv_scan.specs.Claims.{log_claims}
use Rattle.nv_scan.proofs.claiming.claim_pages.Given as goal

abbrev pub invariant-loop-block : goal.invariant-loop-block
invariant-loop-block l = record {
  count : l.page ≡ l.block-index;
  map : l.seat.map ≡ l.map;
  number : l.seat.number ≡ l.fn.seat.number;
  adds : Adds (log_claims l.inode 0 (take l.block-index l.pages)) l.fn.seat.view l.seat.view;
}
