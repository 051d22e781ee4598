use Rattle.std.proofs.Common.{◌≡◌, ◌⊎◌, ◌<◌, ◌≤◌, ◌-◌, drop, take}
use Rattle.nv_deadpages.specs.InTurn.{SaysTheSame}
use Rattle.nv_deadpages.proofs.in_turn.count_in_turn.Given as goal

abbrev pub invariant-loop-count : goal.invariant-loop-count
invariant-loop-count g l = record {
  some : 0 < l.count;
  few : l.count ≤ l.most;
  same : (l.count ≡ 1) ⊎ SaysTheSame (g.P.Pmem.region l.memory) l.sup l.created l.row (take l.count (drop l.first l.row.pages.items));
}

abbrev pub decreases-loop-count : goal.decreases-loop-count
decreases-loop-count g l = l.most - l.count
