use Rattle.nv_region.specs.Region.{HasBlocks}
use Rattle.test_store.proofs.chains.fill.Given as goal

abbrev pub invariant-loop-word : goal.invariant-loop-word
invariant-loop-word l = HasBlocks l.memory.region 16
