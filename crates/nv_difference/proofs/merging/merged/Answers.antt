use Rattle.nv_difference.proofs.Merges.{all_left, all_merged, fewer, one_merged}
use Rattle.nv_difference.proofs.merging.merged.Goals as goal

pub loop-least-init : goal.loop-least-init
loop-least-init c = rw c.new-names.ensures.items (all_left c.args.a.now c.args.b.now c.requires.first c.requires.second)

pub loop-least-smaller : goal.loop-least-smaller
loop-least-smaller c = rw (c.behind-left.ensures, c.behind-right.ensures) (fewer c.loop-least.left.now c.loop-least.right.now c.in-Some.least c.in-Some.ensures)

pub loop-least-preserved : goal.loop-least-preserved
loop-least-preserved c = rw (c.behind-left.ensures, c.behind-right.ensures, c.in_ok-push.ensures.items)
    (one_merged c.args.a.now c.args.b.now c.loop-least.left.now c.loop-least.right.now c.loop-least.names.items c.in-Some.least c.in-Some.ensures c.loop-least.invariant)

pub returns : goal.returns
returns c = all_merged c.args.a.now c.args.b.now c.loop-least.left.now c.loop-least.right.now c.loop-least.names.items c.in_default.ensures c.loop-least.invariant
