use Rattle.nv_region.specs.Region.{HasBlocks}
use Rattle.test_store.proofs.chains.put_all.Given as goal

abbrev pub invariant-loop-at : goal.invariant-loop-at
invariant-loop-at l = HasBlocks l.memory.region 16
