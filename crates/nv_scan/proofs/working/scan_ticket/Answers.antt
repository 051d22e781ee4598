use Rattle.std.proofs.Common.{ℕ, List, take, sym, subst}
use Rattle.std.specs.List.{All}
use Rattle.std.proofs.lemmas.Result.{on_ok_weaker}
use Rattle.nv_claimcore.specs.Spans.{Adds}
use Rattle.nv_scan.specs.ClaimList.{ClaimList}
use Rattle.nv_scan.specs.Claiming.{IsClaimable}
use Rattle.nv_scan.specs.Work.{claims_among}
use Rattle.nv_scan.proofs.Work.{next_fit, next_done}
use Rattle.nv_scan.proofs.working.scan_ticket.Goals as goal

pub claim_each-requires-clause-each : goal.claim_each-requires-clause-each
claim_each-requires-clause-each g c =
    let n = c.in_ok-count.count in
    subst (λ (each : List ClaimList). All (IsClaimable c.args.map.now.sizes.blocks) (claims_among (take n each))) (sym c.deref.ensures.value)
    (subst (λ (blocks : ℕ). All (IsClaimable blocks) (claims_among (take n c.scan_slots_once.new.each.items))) (sym c.requires.sizes) (next_fit c.are_laid.ensures c.in_ok-count.ensures.next))

pub returns-clause-done : goal.returns-clause-done
returns-clause-done g c = on_ok_weaker c.claim_each.result (λ adds. next_done c.in_ok-count.ensures.next
    (subst (λ (each : List ClaimList). Adds (claims_among (take c.in_ok-count.count each)) c.args.seat.now.view c.claim_each.new.seat.view) c.deref.ensures.value adds)) c.claim_each.ensures.ok
