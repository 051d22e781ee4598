use Rattle.nv_region.specs.Region.{HasBlocks}
use Rattle.test_store.proofs.log.appending.used_region.Given as goal

abbrev pub invariant-loop-k : goal.invariant-loop-k
invariant-loop-k g l = HasBlocks l.memory.region 16
