use Rattle.std.proofs.Common.{ℕ, List, take, refl, sym, ◌∙◌, subst}
use Rattle.std.specs.List.{All}
use Rattle.std.proofs.lemmas.List.{take_all}
use Rattle.nv_super.specs.declared.owners.Owner.{Owner}
use Rattle.nv_claimcore.specs.Spans.{Adds}
use Rattle.nv_claimcore.proofs.Runs.{adds_none}
use Rattle.nv_scan.specs.ClaimList.{ClaimList}
use Rattle.nv_scan.specs.Claiming.{IsClaimable}
use Rattle.nv_scan.specs.Work.{claims_among}
use Rattle.nv_scan.proofs.Runs.{adds_both, among_more, each_among}
use Rattle.nv_scan.proofs.claiming.claim_each.Goals as goal

pub claim_all-requires-clause-each : goal.claim_all-requires-clause-each
claim_all-requires-clause-each c =
    let fits = IsClaimable c.args.map.now.sizes.blocks in
    subst (λ (x : ClaimList). All fits x.items) (sym c.claims-item.is) (each_among fits c.args.each.now c.loop-claims.claims-index c.claims-item.result c.loop-claims-test.true c.requires.each)

pub loop-claims-init : goal.loop-claims-init
loop-claims-init c = record { map = c.requires.own; number = refl; seats = refl; adds = adds_none c.args.seat.now.view }

pub loop-claims-preserved : goal.loop-claims-preserved
loop-claims-preserved c =
    let each = c.args.each.now in
    let k = c.loop-claims.claims-index in
    let own = c.claims-item.result in
    let l = c.loop-claims.invariant in
    let same = c.claim_all.ensures.same in
    record {
      map = same.0 ∙ l.map;
      number = same.1 ∙ l.number;
      seats = same.2 ∙ l.seats;
      adds = subst (λ (ps : List (ℕ × Owner)). Adds ps c.args.seat.now.view c.claim_all.new.seat.view) (sym (among_more each k own c.loop-claims-test.true c.claims-item.is))
          (adds_both (claims_among (take k each)) own.items c.args.seat.now.view c.loop-claims.seat.view c.claim_all.new.seat.view l.adds c.in_ok-claim_all.ensures.ok);
    }

pub returns-clause-ok : goal.returns-clause-ok
returns-clause-ok c = subst (λ (each : List ClaimList). Adds (claims_among each) c.args.seat.now.view c.loop-claims.seat.view) (take_all c.loop-claims.claims-index c.args.each.now c.loop-claims-test.false) c.loop-claims.invariant.adds
