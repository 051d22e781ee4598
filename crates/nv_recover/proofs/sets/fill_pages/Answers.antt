use Rattle.std.proofs.Common.{◌+◌, ◌++◌, List, ℕ, refl, ap, get_or, length, take, subst, sym, append-nil, ◌∙◌, arith}
use Rattle.std.proofs.lemmas.List.{take_all}
use Rattle.nv_blockset.proofs.Sets.{with_block_long}
use Rattle.nv_super.specs.declared.owners.Owner.{Owner}
use Rattle.nv_super.specs.declared.owners.Owner.TheVariants.{Log}
use Rattle.nv_scan.specs.Claims.{log_claims}
use Rattle.nv_scan.proofs.ClaimLists.{log_claims-more}
use Rattle.nv_scan.proofs.Runs.{each_page}
use Rattle.nv_outcome.specs.Parts.{AreMaps}
use Rattle.nv_recover.specs.Scanned.{Fits}
use Rattle.nv_recover.proofs.TwoSets.{second_after_long, maps_behind}
use Rattle.nv_recover.proofs.sets.fill_pages.Goals as goal

pub loop-block-init : goal.loop-block-init
loop-block-init c = record {
  first_long = refl;
  second_long = refl;
  maps = λ before maps. subst (λ (claims : List (ℕ × Owner)). AreMaps claims c.args.first.now c.args.second.now) (sym (append-nil before)) maps;
}

pub claim-requires : goal.claim-requires
claim-requires c =
    let here = each_page (Fits c.args.first.now c.args.second.now) c.args._inode c.loop-block.block-index c.args.pages.now c.loop-block-test.true c.requires.within in
    (omega (arith, here.0, c.loop-block.invariant.first_long), omega (arith, here.1, c.loop-block.invariant.second_long))

pub loop-block-preserved : goal.loop-block-preserved
loop-block-preserved c =
    let l = c.loop-block in
    let claimed = c.claim.ensures in
    let i = c.args._inode in
    let bs = c.args.pages.now in
    let k = l.block-index in
    let here = each_page (Fits c.args.first.now c.args.second.now) i k bs c.loop-block-test.true c.requires.within in
    record {
      first_long = ap length claimed.first ∙ (with_block_long l.first _ ∙ l.invariant.first_long);
      second_long = ap length claimed.second ∙ (second_after_long l.first l.second _ ∙ l.invariant.second_long);
      maps = λ before maps. maps_behind before (log_claims i 0 (take k bs)) (log_claims i 0 (take (k + 1) bs)) (get_or bs k 0) (Log i k) l.first l.second c.claim.new.first c.claim.new.second _ _ l.invariant.first_long l.invariant.second_long
          here (l.invariant.maps before maps) claimed.first claimed.second (log_claims-more i k bs 0 c.loop-block-test.true);
    }

pub returns : goal.returns
returns c = let l = c.loop-block in record {
  maps = λ before maps. subst (λ (bs : List ℕ). AreMaps (before ++ log_claims c.args._inode 0 bs) l.first l.second) (take_all l.block-index c.args.pages.now c.loop-block-test.false) (l.invariant.maps before maps);
  as_long = (l.invariant.first_long, l.invariant.second_long);
}
