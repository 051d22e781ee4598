use Rattle.std.proofs.Common.{◌++◌, List, ℕ, ap, ◌∙◌, sym, append_assoc}
use Rattle.nv_super.specs.declared.owners.Owner.{Owner}
use Rattle.nv_super.specs.Layout.{chain_of}
use Rattle.nv_scan.specs.ChainBlocks.{chain_claims, claims_of_chains}
use Rattle.nv_block.specs.Owned.{owners_at}
use Rattle.nv_block.proofs.AllOwners.{chain_owners_more}
use Rattle.nv_block.proofs.owners.push_tables.Goals as goal

pub loop-cpu-preserved : goal.loop-cpu-preserved
loop-cpu-preserved c =
    let l = c.args.tables.now.layout in
    let cpu = c.loop-cpu.cpu in
    let b = c.args.block in
    let old = c.args.owners.now.items in
    let so_far = owners_at b (claims_of_chains l cpu) in
    let one = owners_at b (chain_claims cpu 0 (chain_of l cpu)) in
    c.in_ok-push_chain.ensures
    ∙ ap (λ (blocks : List ℕ). c.loop-cpu.owners.items ++ owners_at b (chain_claims cpu 0 blocks)) c.chain.ensures
    ∙ ap (λ (os : List Owner). os ++ one) c.loop-cpu.invariant
    ∙ append_assoc old so_far one
    ∙ ap (λ (os : List Owner). old ++ os) (sym (chain_owners_more l cpu b))
