use Rattle.nv_region.specs.Region.{HasBlocks}
use Rattle.refusals.proofs.region.store_all.Given as goal

abbrev pub invariant-loop-at : goal.invariant-loop-at
invariant-loop-at l = HasBlocks l.memory.region l.fn.blocks
