use Rattle.std.proofs.Common.{map}
use Rattle.nv_members.specs.Members.{name_and_inode}
use Rattle.nv_difference.specs.Pairs.{both_of, pairs_of}
use Rattle.nv_difference.proofs.Told.{next_led}
use Rattle.nv_difference.proofs.below.push_each.Goals as goal

pub loop-named-preserved : goal.loop-named-preserved
loop-named-preserved g c = next_led (pairs_of (g.S.Inodes.tree c.args.first.now) (g.T.Inodes.tree c.args.second.now) (both_of c.args.above.now)) name_and_inode c.args.listed.now c.loop-named.named-index _
    (map both_of c.args.below.now.items) (map both_of c.loop-named.below.items) (map both_of c.push_pair.new.below.items) c.loop-named-test.true c.loop-named.invariant c.in_ok-push_pair.ensures
