use Rattle.std.proofs.Common.{◌-◌, ◌≤◌}
use Rattle.nv_alloc.specs.SetTo.{SetTo}
use Rattle.nv_alloc.proofs.marks.Marks.clear.Given as goal

-- the blocks up to here are done
abbrev pub invariant-loop-here : goal.invariant-loop-here
invariant-loop-here l = record {
  order : l.from ≤ l.here;
  within : l.from ≤ l.to → l.here ≤ l.to;
  done : SetTo l.initial.self l.from l.here 0 l.self;
}

abbrev pub decreases-loop-here : goal.decreases-loop-here
decreases-loop-here l = l.to - l.here
