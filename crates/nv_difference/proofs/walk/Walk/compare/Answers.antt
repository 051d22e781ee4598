use Rattle.std.specs.BTreeMap.{get}
use Rattle.std.specs.Ordering.{nat_cmp}
use Rattle.nv_difference.specs.Pairs.{both_of}
use Rattle.nv_difference.specs.Walk.{seen_in}
use Rattle.nv_difference.proofs.Steps.{compared_on, compared_ready, top_is}
use Rattle.nv_difference.proofs.Tables.{with_both}
use Rattle.nv_folders.proofs.Steps.{by_kind}
use Rattle.nv_difference.proofs.walk.Walk.compare.Goals as goal

pub pairs_below-requires : goal.pairs_below-requires
pairs_below-requires g c =
    let t = g.S.Inodes.tree c.args.first.now in
    let u = g.T.Inodes.tree c.args.second.now in
    by_kind t c.args.next.a (top_is t u c.args.self.now.visits.items c.args.self.now.pending.items c.args.next (get nat_cmp c.args.self.now.partners) (get nat_cmp c.args.self.now.owners) c.requires.ready).0

pub returns-clause-ready : goal.returns-clause-ready
returns-clause-ready g c =
    let t = g.S.Inodes.tree c.args.first.now in
    let u = g.T.Inodes.tree c.args.second.now in
    rw (c.in_ok-append.ensures.items, c.reverse.ensures.items, c.in_ok-push.ensures.items)
    (compared_ready t u c.args.self.now.visits.items c.args.self.now.pending.items c.args.next (get nat_cmp c.args.self.now.partners) (get nat_cmp c.args.self.now.owners) c.requires.ready c.in_ok-below.below.items _ _ c.in_ok-below.ensures
    (with_both (seen_in c.args.self.now.visits.items) (both_of c.args.next) c.args.self.now.partners c.args.self.now.owners c.insert.new.self c.insert-2.new.self c.requires.ready.tables
    c.in_ok-insert.ensures.updates c.in_ok-insert-2.ensures.updates))

pub returns-clause-leads : goal.returns-clause-leads
returns-clause-leads g c =
    let t = g.S.Inodes.tree c.args.first.now in
    let u = g.T.Inodes.tree c.args.second.now in
    rw (c.in_ok-append.ensures.items, c.reverse.ensures.items, c.in_ok-push.ensures.items)
    (compared_on t u c.args.self.now.visits.items c.args.self.now.pending.items c.in_ok-below.below.items c.args.next c.requires.new c.in_ok-below.ensures)
