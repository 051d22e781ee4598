use Rattle.std.proofs.Common.{◌≡◌, [], ◌∷◌, List, ℕ, Option, Some, refl, ap, subst, sym, append-nil}
use Rattle.std.specs.List.{All}
use Rattle.std.proofs.lemmas.List.Elements.{All-contains}
use Rattle.nv_super.specs.declared.owners.Owner.{Owner}
use Rattle.nv_super.specs.declared.owners.Owner.TheVariants.{Table}
use Rattle.nv_super.proofs.Rising.{Contains-head}
use Rattle.nv_scan.specs.ChainBlocks.{table_claims}
use Rattle.nv_scan.specs.declared.chain_block.ChainBlock.{ChainBlock}
use Rattle.nv_outcome.specs.Parts.{AreMaps}
use Rattle.nv_recover.specs.Scanned.{Fits}
use Rattle.nv_recover.proofs.TwoSets.{maps_behind}
use Rattle.nv_recover.proofs.sets.fill_table.Goals as goal

-- both sets have a bit for the block
fits : (first second : List ℕ) (o : Option ChainBlock) (t : ChainBlock) → o ≡ Some t → All (Fits first second) (table_claims o) → Fits first second (t.block, Table t.cpu t.place)
fits first second o t is all =
    let x : ℕ × Owner = (t.block, Table t.cpu t.place) in
    All-contains (Fits first second) (x ∷ []) x (subst (λ (o : Option ChainBlock). All (Fits first second) (table_claims o)) is all) (Contains-head x [])

pub claim-requires : goal.claim-requires
claim-requires c = fits c.args.first.now c.args.second.now c.args.table c.in-Some.table c.in-Some.is c.requires.within

pub returns-in-Some-clause-maps : goal.returns-in-Some-clause-maps
returns-in-Some-clause-maps c = λ before maps.
    (let t = c.in-Some.table in
    let first = c.args.first.now in
    let second = c.args.second.now in
    maps_behind before [] (table_claims c.args.table) t.block (Table t.cpu t.place) first second c.claim.new.first c.claim.new.second _ _ refl refl
    (fits first second c.args.table t c.in-Some.is c.requires.within) (subst (λ (claims : List (ℕ × Owner)). AreMaps claims first second) (sym (append-nil before)) maps) c.claim.ensures.first c.claim.ensures.second (ap table_claims c.in-Some.is))
