use Rattle.std.proofs.Common.{◌≡◌, ◌++◌, take}
use Rattle.nv_scan.specs.ChainBlocks.{chain_claims}
use Rattle.nv_scan.proofs.all_claims.add_chain.Given as goal

abbrev pub invariant-loop-block : goal.invariant-loop-block
invariant-loop-block l = record {
  count : l.place ≡ l.block-index;
  pushed : l.claims.items ≡ l.fn.claims.items ++ chain_claims l.cpu 0 (take l.block-index l.blocks);
}
