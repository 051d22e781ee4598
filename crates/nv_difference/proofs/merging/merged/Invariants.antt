use Rattle.std.proofs.Common.{◌+◌, length}
use Rattle.nv_difference.specs.Merging.{IsMerging}
use Rattle.nv_difference.proofs.merging.merged.Given as goal

-- what is left stands behind what is merged
abbrev pub invariant-loop-least : goal.invariant-loop-least
invariant-loop-least l = IsMerging l.a l.b l.left l.right l.names.items

abbrev pub decreases-loop-least : goal.decreases-loop-least
decreases-loop-least l = length l.left + length l.right
