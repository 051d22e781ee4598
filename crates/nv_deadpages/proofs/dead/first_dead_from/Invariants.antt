use Rattle.std.proofs.Common.{ℕ, ◌+◌, ◌<◌, List, get_or}
use Rattle.nv_logpage.specs.declared.found.Placed.{Placed}
use Rattle.nv_deadpages.specs.Dead.{CanGo, IsSaidBy}
use Rattle.nv_deadpages.proofs.dead.first_dead_from.Given as goal

-- the pages before this one can't go
abbrev pub invariant-loop-behind : goal.invariant-loop-behind
invariant-loop-behind g l = (es : List Placed) → IsSaidBy (g.P.Pmem.region l.memory) l.sup l.created es l.row → (j : ℕ) → j + 1 < l.behind → CanGo l.sup l.row.kind l.row.inode l.created es (get_or l.row.pages.items j 0) → ⊥
