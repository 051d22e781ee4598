use Rattle.std.proofs.Common.{◌≡◌, ◌≤◌, ◌+◌, ◌*◌, ◌%◌}
use Rattle.nv_region.specs.Region.{HasBlocks}
use Rattle.bench.proofs.chains.store_chain.Given as goal

abbrev pub invariant-loop-place : goal.invariant-loop-place
invariant-loop-place l = record {
  blocks : HasBlocks l.memory.region 65536;
  aligned : l.at % 8 ≡ 0;
  inside : l.at + 8 ≤ 4096 * 65536;
}
