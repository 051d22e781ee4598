use Rattle.std.proofs.Common.{◌+◌, ◌++◌, List, ℕ, refl, get_or, take, subst, sym, append-nil, ◌∙◌}
use Rattle.std.proofs.lemmas.List.{take_all, get_or_default}
use Rattle.nv_super.specs.declared.owners.Owner.{Owner}
use Rattle.nv_radix.specs.declared.extent.Extent.{Extent}
use Rattle.nv_scan.specs.Claims.{data_claims, run_claims}
use Rattle.nv_scan.proofs.ClaimLists.{data_claims-more}
use Rattle.nv_scan.proofs.Runs.{no_run, each_run}
use Rattle.nv_outcome.specs.Parts.{AreMaps}
use Rattle.nv_recover.specs.Scanned.{Fits}
use Rattle.nv_recover.proofs.MadeMaps.{fits_as_long}
use Rattle.nv_recover.proofs.TwoSets.{maps_on}
use Rattle.nv_recover.proofs.sets.fill_runs.Goals as goal

pub loop-run-init : goal.loop-run-init
loop-run-init c = record {
  first_long = refl;
  second_long = refl;
  maps = λ before maps. subst (λ (claims : List (ℕ × Owner)). AreMaps claims c.args.first.now c.args.second.now) (sym (append-nil before)) maps;
}

pub fill_run-requires : goal.fill_run-requires
fill_run-requires c =
    let l = c.loop-run in
    let runs = c.args.runs.now in record {
      within = fits_as_long (run_claims c.args.inode (get_or runs l.run-index no_run)) c.args.first.now c.args.second.now l.first l.second (l.invariant.first_long, l.invariant.second_long)
          (each_run (Fits c.args.first.now c.args.second.now) c.args.inode l.run-index runs no_run c.loop-run-test.true c.requires.within);
      small = c.requires.small l.run-index no_run c.loop-run-test.true;
    }

pub loop-run-preserved : goal.loop-run-preserved
loop-run-preserved c =
    let l = c.loop-run in
    let i = c.args.inode in
    let runs = c.args.runs.now in
    let k = l.run-index in
    let x = get_or runs k no_run in
    let front = data_claims i (take k runs) in
    let less = c.loop-run-test.true in
    let long = c.fill_run.ensures.as_long in record {
      first_long = long.0 ∙ l.invariant.first_long;
      second_long = long.1 ∙ l.invariant.second_long;
      maps = λ before maps. maps_on before front (run_claims i x) (data_claims i (take (k + 1) runs)) (data_claims-more i runs k x less (get_or_default runs k no_run x less)) (c.fill_run.ensures.maps (before ++ front) (l.invariant.maps before maps));
    }

pub returns : goal.returns
returns c = let l = c.loop-run in record {
  maps = λ before maps. subst (λ (runs : List Extent). AreMaps (before ++ data_claims c.args.inode runs) l.first l.second) (take_all l.run-index c.args.runs.now c.loop-run-test.false) (l.invariant.maps before maps);
  as_long = (l.invariant.first_long, l.invariant.second_long);
}
