use Rattle.std.proofs.Common.{◌-◌, ◌^◌}
use Rattle.nv_inspect.proofs.Stretches.{IsSaidTo}
use Rattle.nv_inspect.proofs.pages.say.Given as goal

-- the pages before this one are said
abbrev pub invariant-loop-end : goal.invariant-loop-end
invariant-loop-end l = IsSaidTo l.first l.end l.shift l.by l.initial.pieces.entries l.pieces.entries l.page

abbrev pub decreases-loop-end : goal.decreases-loop-end
decreases-loop-end l = 2 ^ 64 - l.page
