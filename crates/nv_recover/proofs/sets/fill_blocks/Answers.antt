use Rattle.std.proofs.Common.{◌≡◌, ◌+◌, ◌++◌, List, ℕ, refl, ap, length, subst, sym, append-nil, ◌∙◌, arith}
use Rattle.nv_blockset.proofs.Sets.{with_block_long}
use Rattle.nv_super.specs.declared.owners.Owner.{Owner}
use Rattle.nv_super.specs.declared.owners.Owner.TheVariants.{Data}
use Rattle.nv_super.specs.Owners.{pairs}
use Rattle.nv_scan.proofs.ClaimLists.{run_claims-more}
use Rattle.nv_scan.proofs.Runs.{each_block}
use Rattle.nv_outcome.specs.Parts.{AreMaps}
use Rattle.nv_recover.specs.Scanned.{Fits}
use Rattle.nv_recover.proofs.TwoSets.{second_after_long, maps_behind}
use Rattle.nv_recover.proofs.sets.fill_blocks.Goals as goal

pub loop-by-init : goal.loop-by-init
loop-by-init c = record {
  first_long = refl;
  second_long = refl;
  maps = λ before maps. subst (λ (claims : List (ℕ × Owner)). AreMaps claims c.args.first.now c.args.second.now) (sym (append-nil before)) maps;
}

pub claim-requires : goal.claim-requires
claim-requires c =
    let x = c.args.run.now in
    let here = each_block (Fits c.args.first.now c.args.second.now) c.args._inode x.page x.block x.count c.loop-by.by c.loop-by-test.true c.requires.within in
    (omega (arith, here.0, c.loop-by.invariant.first_long), omega (arith, here.1, c.loop-by.invariant.second_long))

pub loop-by-preserved : goal.loop-by-preserved
loop-by-preserved c =
    let l = c.loop-by in
    let claimed = c.claim.ensures in
    let i = c.args._inode in
    let x = c.args.run.now in
    let k = l.by in
    let here = each_block (Fits c.args.first.now c.args.second.now) i x.page x.block x.count k c.loop-by-test.true c.requires.within in
    record {
      first_long = ap length claimed.first ∙ (with_block_long l.first _ ∙ l.invariant.first_long);
      second_long = ap length claimed.second ∙ (second_after_long l.first l.second _ ∙ l.invariant.second_long);
      maps = λ before maps. maps_behind before (pairs x.block (Data i x.page) k) (pairs x.block (Data i x.page) (k + 1)) (x.block + k) (Data i (x.page + k)) l.first l.second c.claim.new.first c.claim.new.second _ _ l.invariant.first_long l.invariant.second_long
          here (l.invariant.maps before maps) claimed.first claimed.second (run_claims-more i x.page x.block k);
    }

pub returns : goal.returns
returns c = let l = c.loop-by in record {
  maps = λ before maps. subst (λ (n : ℕ). AreMaps (before ++ pairs c.args.run.now.block (Data c.args._inode c.args.run.now.page) n) l.first l.second) (let end = c.loop-by-test.false in let most = l.auto.by-end in let all : l.by ≡ c.args.run.now.count = omega (arith, end, most) in all) (l.invariant.maps before maps);
  as_long = (l.invariant.first_long, l.invariant.second_long);
}
