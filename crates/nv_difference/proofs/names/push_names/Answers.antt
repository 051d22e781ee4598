use Rattle.std.proofs.Common.{string_bytes}
use Rattle.nv_difference.specs.Names.{IsNameText, name_bytes}
use Rattle.nv_difference.specs.Pairs.{both_of}
use Rattle.nv_difference.proofs.Told.{next_told}
use Rattle.nv_difference.proofs.names.push_names.Goals as goal

pub loop-named-preserved : goal.loop-named-preserved
loop-named-preserved g c = next_told (IsNameText (g.S.Inodes.tree c.args.first.now) (g.T.Inodes.tree c.args.second.now) (both_of c.args.pair.now)) name_bytes c.args.names.now c.loop-named.named-index _
    (string_bytes c.args.out.now) (string_bytes c.loop-named.out) (string_bytes c.push_name.new.out) c.loop-named-test.true c.loop-named.invariant c.in_ok-push_name.ensures
