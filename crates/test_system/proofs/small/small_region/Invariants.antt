use Rattle.nv_region.specs.Region.{HasBlocks}
use Rattle.test_system.proofs.small.small_region.Given as goal

abbrev pub invariant-loop-at : goal.invariant-loop-at
invariant-loop-at l = HasBlocks l.memory.region 16
