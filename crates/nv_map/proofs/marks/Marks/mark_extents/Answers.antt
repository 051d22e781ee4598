use Rattle.nv_map.specs.Marks.{SaysExtent}
use Rattle.nv_map.proofs.Says.{says_next}
use Rattle.nv_map.proofs.marks.Marks.mark_extents.Goals as goal

pub loop-extent-preserved : goal.loop-extent-preserved
loop-extent-preserved c = says_next SaysExtent c.args.extents.now c.loop-extent.extent-index _ _ _ _ c.loop-extent-test.true c.loop-extent.invariant c.mark.ensures
