use Rattle.std.proofs.Common.{◌≤◌, ◌-◌, ◌^◌}
use Rattle.nv_inspect.specs.Held.{Marks}
use Rattle.nv_inspect.proofs.Stretches.{HoldsFront}
use Rattle.nv_inspect.proofs.pages.mark_pages.Given as goal

-- the holders of the pages before this one are marked
abbrev pub invariant-loop-end : goal.invariant-loop-end
invariant-loop-end l = (l.first ≤ l.page) × Marks l.by (HoldsFront l.pieces.entries l.first l.end l.page) l.initial.takers l.takers

abbrev pub decreases-loop-end : goal.decreases-loop-end
decreases-loop-end l = 2 ^ 64 - l.page
