use Rattle.std.proofs.Common.{Option, subst}
use Rattle.std.specs.List.{All}
use Rattle.nv_scan.specs.ChainBlocks.{table_claims}
use Rattle.nv_scan.specs.Claiming.{IsClaimable}
use Rattle.nv_scan.specs.declared.chain_block.ChainBlock.{ChainBlock}
use Rattle.nv_scan.proofs.Runs.{table_fits}
use Rattle.nv_scan.proofs.claiming.claim_table.Goals as goal

pub claim-requires-clause-blocks : goal.claim-requires-clause-blocks
claim-requires-clause-blocks c = λ _. (let fits = subst (λ (o : Option ChainBlock). All (IsClaimable c.args.map.now.sizes.blocks) (table_claims o)) c.in-Some.is c.requires.each in
    table_fits c.args.map.now.sizes.blocks c.run.result.start c.run.result.count c.in-Some.table c.run.ensures.block c.run.ensures.one fits)
