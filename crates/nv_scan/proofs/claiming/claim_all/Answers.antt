use Rattle.std.proofs.Common.{List, ℕ, sym, subst}
use Rattle.std.proofs.lemmas.Result.{on_ok_weaker}
use Rattle.nv_super.specs.declared.owners.Owner.{Owner}
use Rattle.nv_claimcore.specs.Spans.{Adds}
use Rattle.nv_scan.specs.Claiming.{IsClaimable}
use Rattle.nv_scan.proofs.Runs.{adds_both, claims_split}
use Rattle.nv_scan.proofs.claiming.claim_all.Goals as goal

pub claim_pages-requires-clause-each : goal.claim_pages-requires-clause-each
claim_pages-requires-clause-each c = (claims_split (IsClaimable c.args.map.now.sizes.blocks) c.parts-table.result.0 c.parts-table.result.1 c.args.claims.now.items c.parts-table.result.2.now c.parts-table.result.3.now c.parts-table.ensures.claims c.requires.each).1.0

pub claim_runs-requires-clause-each : goal.claim_runs-requires-clause-each
claim_runs-requires-clause-each c = (claims_split (IsClaimable c.args.map.now.sizes.blocks) c.parts-table.result.0 c.parts-table.result.1 c.args.claims.now.items c.parts-table.result.2.now c.parts-table.result.3.now c.parts-table.ensures.claims c.requires.each).1.1

pub claim_table-requires-clause-each : goal.claim_table-requires-clause-each
claim_table-requires-clause-each c = (claims_split (IsClaimable c.args.map.now.sizes.blocks) c.parts-table.result.0 c.parts-table.result.1 c.args.claims.now.items c.parts-table.result.2.now c.parts-table.result.3.now c.parts-table.ensures.claims c.requires.each).0

pub returns-clause-ok : goal.returns-clause-ok
returns-clause-ok c = on_ok_weaker c.claim_runs.result (λ adds. subst (λ (ps : List (ℕ × Owner)). Adds ps c.args.seat.now.view c.claim_runs.new.seat.view) (sym c.parts-table.ensures.claims)
    (adds_both _ _ c.args.seat.now.view c.claim_table.new.seat.view c.claim_runs.new.seat.view c.in_ok-claim_table.ensures.ok
    (adds_both _ _ c.claim_table.new.seat.view c.claim_pages.new.seat.view c.claim_runs.new.seat.view c.in_ok-claim_pages.ensures.ok adds))) c.claim_runs.ensures.ok
