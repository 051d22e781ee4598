use Rattle.std.proofs.Common.{[], Some, map, sym, subst}
use Rattle.nv_difference.specs.Walk.{AreDirectories, visit_of, waiting}
use Rattle.nv_difference.proofs.Steps.{roots_are, visited_are}
use Rattle.nv_difference.proofs.telling.difference_text.Goals as goal

pub push_visits-requires : goal.push_visits-requires
push_visits-requires g c =
    let t = g.S.Inodes.tree c.args.first.now in
    let u = g.T.Inodes.tree c.args.second.now in
    rw c.deref.ensures.value (visited_are t u [] (waiting c.in_ok-pending.pending.items) (map visit_of c.in_ok-visits.visits.items) c.in_ok-visits.ensures
    (subst (AreDirectories t u) (sym c.in_ok-pending.ensures) (roots_are t u [] 1 (Some 1))))
