use Rattle.std.proofs.Common.{◌++◌, ◌∙◌, List, ap}
use Rattle.std.proofs.lemmas.List.Elements.{All-contains_itself}
use Rattle.nv_super.specs.declared.owners.Owner.{Owner}
use Rattle.nv_scan.specs.ChainBlocks.{claims_of_chains}
use Rattle.nv_block.specs.Owned.{owners_at}
use Rattle.nv_block.proofs.AllOwners.{all_owners, small_row}
use Rattle.nv_block.proofs.owners.owners_of.Goals as goal

pub push_rows-requires : goal.push_rows-requires
push_rows-requires c = λ k d less.
    let (region, are) = c.requires in
    small_row region c.args.tables.now.layout c.args.rows.now.items are c.are_laid.ensures.layout _ (All-contains_itself c.args.rows.now.items k d less)

pub returns : goal.returns
returns c region are =
    let l = c.args.tables.now.layout in
    let b = c.args.block in
    let own = c.in_ok-push_rows.ensures in
    let first = c.in_ok-push_tables.ensures ∙ ap (λ (os : List Owner). os ++ owners_at b (claims_of_chains l l.sup.cpus)) c.new-owners.ensures.items in
    all_owners region l c.args.rows.now.items are c.are_laid.ensures own.0 own.1 b c.push_rows.new.owners.items (own.2 ∙ ap (λ (os : List Owner). os ++ owners_at b own.0) first)
