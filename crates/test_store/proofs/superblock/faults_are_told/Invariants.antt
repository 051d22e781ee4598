use Rattle.nv_region.specs.Region.{HasBlocks}
use Rattle.test_store.proofs.superblock.faults_are_told.Given as goal

abbrev pub invariant-loop-at : goal.invariant-loop-at
invariant-loop-at g l = HasBlocks l.memory.region 64
