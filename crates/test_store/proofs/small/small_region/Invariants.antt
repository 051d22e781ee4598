use Rattle.nv_region.specs.Region.{HasBlocks}
use Rattle.test_store.proofs.small.small_region.Given as goal

abbrev pub invariant-loop-at : goal.invariant-loop-at
invariant-loop-at g l = HasBlocks l.memory.region 16
