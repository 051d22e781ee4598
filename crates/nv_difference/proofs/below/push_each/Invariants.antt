use Rattle.std.proofs.Common.{◌≡◌, ◌++◌, take, map, flat_map}
use Rattle.nv_members.specs.Members.{name_and_inode}
use Rattle.nv_difference.specs.Pairs.{both_of, pairs_of}
use Rattle.nv_difference.proofs.below.push_each.Given as goal

-- what the names so far lead to
abbrev pub invariant-loop-named : goal.invariant-loop-named
invariant-loop-named g l = map both_of l.below.items
    ≡ map both_of l.fn.below.items ++ flat_map (pairs_of (g.S.Inodes.tree l.first) (g.T.Inodes.tree l.second) (both_of l.above)) (map name_and_inode (take l.named-index l.listed))
