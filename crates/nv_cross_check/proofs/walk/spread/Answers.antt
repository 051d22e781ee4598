use Rattle.nv_cross_check.proofs.Spread.{spread_step}
use Rattle.nv_cross_check.proofs.walk.spread.Goals as goal

pub loop-name-preserved : goal.loop-name-preserved
loop-name-preserved c = spread_step _ _ _ _ _ _ _ _ _ _ _ c.loop-name-test.true c.loop-name.invariant c.in_ok-spread_to.ensures
