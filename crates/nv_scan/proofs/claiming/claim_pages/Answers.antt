use Rattle.std.proofs.Common.{◌∷◌, [], ℕ, List, get_or, take, sym, ◌∙◌, subst, arith}
use Rattle.std.proofs.lemmas.List.{take_all}
use Rattle.nv_super.specs.declared.owners.Owner.{Owner}
use Rattle.nv_super.specs.declared.owners.Owner.TheVariants.{Log}
use Rattle.nv_claimcore.specs.Spans.{Adds}
use Rattle.nv_scan.specs.Claiming.{IsClaimable}
use Rattle.nv_scan.specs.Claims.{log_claims}
use Rattle.nv_scan.proofs.ClaimLists.{log_claims-more}
use Rattle.nv_scan.proofs.Runs.{adds_both, each_page, page_pair}
use Rattle.nv_scan.proofs.claiming.claim_pages.Goals as goal

pub claim-requires-clause-blocks : goal.claim-requires-clause-blocks
claim-requires-clause-blocks c = λ _. (let within = (each_page (IsClaimable _) c.args.inode c.loop-block.block-index c.args.pages.now c.loop-block-test.true c.requires.each).0 in omega (arith, within))

pub loop-block-preserved : goal.loop-block-preserved
loop-block-preserved c =
    let i = c.args.inode in
    let bs = c.args.pages.now in
    let k = c.loop-block.block-index in
    let l = c.loop-block.invariant in
    let one = page_pair (get_or bs k 0) i c.loop-block.page k l.count in
    record {
      count = omega (arith, l.count);
      map = c.claim.ensures.map ∙ l.map;
      number = c.claim.ensures.number ∙ l.number;
      adds = subst (λ (ps : List (ℕ × Owner)). Adds ps c.args.seat.now.view c.claim.new.seat.view) (sym (log_claims-more i k bs 0 c.loop-block-test.true))
          (adds_both (log_claims i 0 (take k bs)) ((get_or bs k 0, Log i k) ∷ []) c.args.seat.now.view c.loop-block.seat.view c.claim.new.seat.view l.adds
          (subst (λ (ps : List (ℕ × Owner)). Adds ps c.loop-block.seat.view c.claim.new.seat.view) one c.in_ok-claim.ensures.ok));
    }

pub returns-clause-ok : goal.returns-clause-ok
returns-clause-ok c = subst (λ (bs : List ℕ). Adds (log_claims c.args.inode 0 bs) c.args.seat.now.view c.loop-block.seat.view) (take_all c.loop-block.block-index c.args.pages.now c.loop-block-test.false) c.loop-block.invariant.adds
