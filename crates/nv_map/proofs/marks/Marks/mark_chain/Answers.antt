use Rattle.nv_map.specs.Marks.{SaysBlock}
use Rattle.nv_map.proofs.Says.{says_next}
use Rattle.nv_map.proofs.marks.Marks.mark_chain.Goals as goal

pub loop-block-preserved : goal.loop-block-preserved
loop-block-preserved c = says_next SaysBlock c.args.chain.now c.loop-block.block-index _ _ _ _ c.loop-block-test.true c.loop-block.invariant c.mark.ensures
