use Rattle.std.proofs.Common.{[], List, map, subst}
use Rattle.nv_difference.specs.Pairs.{AreVisited}
use Rattle.nv_difference.specs.Walk.{visit_of, waiting}
use Rattle.nv_difference.specs.declared.pair.Pair.{Pair}
use Rattle.nv_difference.proofs.Steps.{all_on, start_ready}
use Rattle.nv_difference.proofs.walk.visits_from.Goals as goal

pub finish-requires : goal.finish-requires
finish-requires g c =
    let t = g.S.Inodes.tree c.args.first.now in
    let u = g.T.Inodes.tree c.args.second.now in
    rw c.new-walk.ensures.pending (start_ready t u c.new-walk.result.visits.items c.args.pending.items _ _ c.new-walk.ensures.visits c.new-walk.ensures.partners c.new-walk.ensures.owners c.requires)

pub returns : goal.returns
returns g c =
    let t = g.S.Inodes.tree c.args.first.now in
    let u = g.T.Inodes.tree c.args.second.now in
    subst (λ (p : List Pair). AreVisited t u [] (waiting p) (map visit_of c.finish.new.self.visits.items)) c.new-walk.ensures.pending
    (all_on t u c.new-walk.result.visits.items c.finish.new.self.visits.items c.new-walk.result.pending.items c.finish.new.self.pending.items c.new-walk.ensures.visits c.in_ok-finish.ensures.done c.in_ok-finish.ensures.leads)
