use Rattle.std.proofs.Common.{◌≤◌}
use Rattle.nv_region.specs.Region.{HasBlocks}
use Rattle.bench.proofs.chains.store_chains.Given as goal

abbrev pub invariant-loop-cpu : goal.invariant-loop-cpu
invariant-loop-cpu l = record {
  blocks : HasBlocks l.memory.region 65536;
  places : l.from ≤ l.count;
}
