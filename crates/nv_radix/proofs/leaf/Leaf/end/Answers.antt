use Rattle.std.proofs.Common.{◌<◌, ◌^◌, arith}
use Rattle.nv_radix.proofs.LeafSteps.{past_highest}
use Rattle.nv_radix.proofs.leaf.Leaf.end.Goals as goal

pub returns-clause-end : goal.returns-clause-end
returns-clause-end c =
    let below : c.self.inside.mapped < 2 ^ 64 = omega arith in
    λ p past. rw (← c.self.view_is) (past_highest c.self.inside.mapped c.self.inside.blocks.items p below past)
