use Rattle.std.proofs.Common.{◌++◌, ◌∷◌, [], List, take, get_or, ap, ◌∙◌, sym, append_assoc}
use Rattle.nv_super.specs.declared.owners.Owner.{Owner}
use Rattle.nv_super.specs.declared.owners.Owner.TheVariants.{Table}
use Rattle.nv_scan.specs.ChainBlocks.{chain_claims}
use Rattle.nv_block.specs.Owned.{owners_at}
use Rattle.nv_block.proofs.AllOwners.{block_more}
use Rattle.nv_block.proofs.owners.push_chain.Goals as goal

pub loop-place-preserved : goal.loop-place-preserved
loop-place-preserved c =
    let n = c.loop-place.place in
    let chain = c.args.chain.now in
    let b = c.args.block in
    let old = c.args.owners.now.items in
    let so_far = owners_at b (chain_claims c.args.cpu 0 (take n chain)) in
    let one = owners_at b ((get_or chain n 0, Table c.args.cpu n) ∷ []) in
    c.in_ok-push_claim.ensures ∙ ap (λ (os : List Owner). os ++ one) c.loop-place.invariant ∙ append_assoc old so_far one
    ∙ ap (λ (os : List Owner). old ++ os) (sym (block_more c.args.cpu n chain b c.loop-place-test.true))
