use Rattle.std.specs.BTreeMap.{get}
use Rattle.std.specs.Ordering.{nat_cmp}
use Rattle.nv_difference.specs.Walk.{IsReady, LeadsOn}
use Rattle.nv_difference.proofs.walk.Walk.finish.Given as goal

-- what is left to be looked at is ready, and leads on from what waited at first
abbrev pub invariant-turns : goal.invariant-turns
invariant-turns g l = IsReady (g.S.Inodes.tree l.first) (g.T.Inodes.tree l.second) l.self.visits.items l.self.pending.items (get nat_cmp l.self.partners) (get nat_cmp l.self.owners)
    × LeadsOn (g.S.Inodes.tree l.first) (g.T.Inodes.tree l.second) l.initial.self.visits.items l.self.visits.items l.initial.self.pending.items l.self.pending.items
