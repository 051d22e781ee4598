use Rattle.nv_region.specs.Region.{HasBlocks}
use Rattle.bench.proofs.chains.touch_all.Given as goal

abbrev pub invariant-loop-block : goal.invariant-loop-block
invariant-loop-block l = HasBlocks l.memory.region 65536
