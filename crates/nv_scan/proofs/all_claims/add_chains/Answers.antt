use Rattle.std.proofs.Common.{◌++◌, List, ℕ, ap, ◌∙◌, sym, append_assoc}
use Rattle.nv_super.specs.declared.owners.Owner.{Owner}
use Rattle.nv_super.specs.Layout.{chain_of}
use Rattle.nv_scan.specs.ChainBlocks.{chain_claims, claims_of_chains}
use Rattle.nv_scan.proofs.AllClaims.{chains_more}
use Rattle.nv_scan.proofs.all_claims.add_chains.Goals as goal

pub loop-cpu-preserved : goal.loop-cpu-preserved
loop-cpu-preserved c =
    let l = c.args.tables.now.layout in
    let cpu = c.loop-cpu.cpu in
    let old = c.args.claims.now.items in
    c.in_ok-add_chain.ensures
    ∙ ap (λ (blocks : List ℕ). c.loop-cpu.claims.items ++ chain_claims cpu 0 blocks) c.chain.ensures
    ∙ ap (λ (xs : List (ℕ × Owner)). xs ++ chain_claims cpu 0 (chain_of l cpu)) c.loop-cpu.invariant
    ∙ append_assoc old (claims_of_chains l cpu) (chain_claims cpu 0 (chain_of l cpu))
    ∙ ap (λ (xs : List (ℕ × Owner)). old ++ xs) (sym (chains_more l cpu))
