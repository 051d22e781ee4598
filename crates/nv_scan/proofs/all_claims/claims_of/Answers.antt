use Rattle.std.proofs.Common.{◌++◌, ◌∙◌, List, ℕ, ap, sym, subst}
use Rattle.std.proofs.lemmas.List.Elements.{All-contains_itself}
use Rattle.nv_super.specs.declared.owners.Owner.{Owner}
use Rattle.nv_scan.specs.ChainBlocks.{claims_of_chains}
use Rattle.nv_scan.specs.Owners.{AreAllClaims}
use Rattle.nv_scan.proofs.AllClaims.{are_all, rows_small}
use Rattle.nv_scan.proofs.all_claims.claims_of.Goals as goal

pub add_rows-requires : goal.add_rows-requires
add_rows-requires c = λ k d less. rows_small c.requires.rows.0 c.args.tables.now.layout c.args.rows.now.items c.are_laid.ensures.layout c.requires.rows.1 _ (All-contains_itself c.args.rows.now.items k d less)

pub returns : goal.returns
returns c = λ region has. let own = c.in_ok-add_rows.ensures in
    subst (λ (xs : List (ℕ × Owner)). AreAllClaims region c.args.tables.now.layout xs)
    (sym (own.1 ∙ ap (λ (xs : List (ℕ × Owner)). xs ++ own.0) (c.in_ok-add_chains.ensures ∙ ap (λ (xs : List (ℕ × Owner)). xs ++ claims_of_chains c.args.tables.now.layout c.args.tables.now.layout.sup.cpus) c.new-claims.ensures)))
    (are_all region c.args.tables.now.layout c.args.rows.now.items has c.are_laid.ensures own.0 own.2)
