use Rattle.std.proofs.Common.{◌+◌, ◌++◌, List, ℕ, refl, take, subst, sym, append-nil, ◌∙◌}
use Rattle.std.specs.List.{All}
use Rattle.std.proofs.lemmas.List.{take_all}
use Rattle.nv_super.specs.declared.owners.Owner.{Owner}
use Rattle.nv_scan.specs.ClaimList.{ClaimList}
use Rattle.nv_scan.specs.Work.{claims_among}
use Rattle.nv_scan.proofs.Runs.{among_more, each_among}
use Rattle.nv_outcome.specs.Parts.{AreMaps}
use Rattle.nv_recover.specs.Scanned.{Fits}
use Rattle.nv_recover.proofs.MadeMaps.{fits_as_long}
use Rattle.nv_recover.proofs.TwoSets.{maps_on}
use Rattle.nv_recover.proofs.sets.Sets.claim_each.Goals as goal

pub loop-claims-init : goal.loop-claims-init
loop-claims-init c = record {
  first_long = refl;
  second_long = refl;
  maps = λ before maps. subst (λ (claims : List (ℕ × Owner)). AreMaps claims c.args.self.now.first.items c.args.self.now.second.items) (sym (append-nil before)) maps;
}

pub claim_all-requires : goal.claim_all-requires
claim_all-requires c =
    let l = c.loop-claims in
    let old = c.args.self.now in
    let fits = Fits old.first.items old.second.items in
    let own = subst (λ (x : ClaimList). All fits x.items) (sym c.claims-item.is) (each_among fits c.args.each.now l.claims-index c.claims-item.result c.loop-claims-test.true c.requires.within) in
    record { within = fits_as_long c.claims-item.result.items old.first.items old.second.items l.self.first.items l.self.second.items (l.invariant.first_long, l.invariant.second_long) own }

pub loop-claims-preserved : goal.loop-claims-preserved
loop-claims-preserved c =
    let l = c.loop-claims in
    let each = c.args.each.now in
    let k = l.claims-index in
    let own = c.claims-item.result in
    let front = claims_among (take k each) in
    let long = c.claim_all.ensures.as_long in record {
      first_long = long.0 ∙ l.invariant.first_long;
      second_long = long.1 ∙ l.invariant.second_long;
      maps = λ before maps. maps_on before front own.items (claims_among (take (k + 1) each)) (among_more each k own c.loop-claims-test.true c.claims-item.is) (c.claim_all.ensures.maps (before ++ front) (l.invariant.maps before maps));
    }

pub returns : goal.returns
returns c = let l = c.loop-claims in record {
  maps = λ before maps. subst (λ (each : List ClaimList). AreMaps (before ++ claims_among each) l.self.first.items l.self.second.items) (take_all l.claims-index c.args.each.now c.loop-claims-test.false) (l.invariant.maps before maps);
  as_long = (l.invariant.first_long, l.invariant.second_long);
}
