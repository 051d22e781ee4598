use Rattle.nv_steps.proofs.blocks.+take_each.Given as goal

abbrev pub decreases-take_each : goal.decreases-take_each
decreases-take_each l = l.count
