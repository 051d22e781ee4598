use Rattle.std.proofs.Common.{◌≡◌, ◌-◌, Some}
use Rattle.nv_tree.specs.Tree.{Node}
use Rattle.nv_difference.specs.Bytes.{AreSameBelow}
use Rattle.nv_difference.proofs.bytes.parting.Given as goal

-- the bytes so far are the same
abbrev pub invariant-loop-at : goal.invariant-loop-at
invariant-loop-at g l = (x y : Node) → g.S.Inodes.tree l.first l.a ≡ Some x → g.T.Inodes.tree l.second l.b ≡ Some y → AreSameBelow x y l.at

abbrev pub decreases-loop-at : goal.decreases-loop-at
decreases-loop-at g l = l.end - l.at
