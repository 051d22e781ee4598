use Rattle.std.specs.BTreeSet.{contains}
use Rattle.std.specs.Ordering.{nat_cmp}
use Rattle.nv_folders.specs.Walk.{IsReady, LeadsOn}
use Rattle.nv_folders.proofs.walk.Walk.finish.Given as goal

-- what is left to be looked at is ready, and leads on from what waited at first
abbrev pub invariant-turns : goal.invariant-turns
invariant-turns g l = IsReady (g.S.Inodes.tree l.source) l.self.folders.items l.self.pending.items (contains nat_cmp l.self.seen)
    × LeadsOn (g.S.Inodes.tree l.source) l.initial.self.folders.items l.self.folders.items l.initial.self.pending.items l.self.pending.items
