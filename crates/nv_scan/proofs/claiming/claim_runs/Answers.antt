use Rattle.std.proofs.Common.{ℕ, List, get_or, take, sym, ◌∙◌, subst}
use Rattle.std.proofs.lemmas.List.{get_or_default, take_all}
use Rattle.nv_super.specs.declared.owners.Owner.{Owner}
use Rattle.nv_radix.specs.declared.extent.Extent.{Extent}
use Rattle.nv_claimcore.specs.Spans.{Adds}
use Rattle.nv_scan.specs.Claims.{data_claims, run_claims}
use Rattle.nv_scan.proofs.ClaimLists.{data_claims-more}
use Rattle.nv_scan.proofs.Runs.{no_run, adds_both, run_claimable}
use Rattle.nv_scan.proofs.claiming.claim_runs.Goals as goal

pub claim-requires-clause-blocks : goal.claim-requires-clause-blocks
claim-requires-clause-blocks c = λ some. (run_claimable _ c.args.inode c.loop-extent.extent-index c.args.runs.now no_run c.loop-extent-test.true c.requires.each some).0

pub claim-requires-clause-owner : goal.claim-requires-clause-owner
claim-requires-clause-owner c = λ some. (run_claimable _ c.args.inode c.loop-extent.extent-index c.args.runs.now no_run c.loop-extent-test.true c.requires.each some).1

pub loop-extent-preserved : goal.loop-extent-preserved
loop-extent-preserved c =
    let i = c.args.inode in
    let runs = c.args.runs.now in
    let k = c.loop-extent.extent-index in
    let x = get_or runs k no_run in
    let l = c.loop-extent.invariant in
    record {
      map = c.claim.ensures.map ∙ l.map;
      number = c.claim.ensures.number ∙ l.number;
      adds = subst (λ (ps : List (ℕ × Owner)). Adds ps c.args.seat.now.view c.claim.new.seat.view) (sym (data_claims-more i runs k x c.loop-extent-test.true (get_or_default runs k no_run x c.loop-extent-test.true)))
          (adds_both (data_claims i (take k runs)) (run_claims i x) c.args.seat.now.view c.loop-extent.seat.view c.claim.new.seat.view l.adds c.in_ok-claim.ensures.ok);
    }

pub returns-clause-ok : goal.returns-clause-ok
returns-clause-ok c = subst (λ (runs : List Extent). Adds (data_claims c.args.inode runs) c.args.seat.now.view c.loop-extent.seat.view) (take_all c.loop-extent.extent-index c.args.runs.now c.loop-extent-test.false) c.loop-extent.invariant.adds
