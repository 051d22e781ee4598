use Rattle.std.proofs.Common.{◌≡◌, take, length}
use Rattle.nv_deadpages.proofs.dead.same_extents.Given as goal

-- those before this place are the same
abbrev pub invariant-loop-k : goal.invariant-loop-k
invariant-loop-k l = record {
  as_long : length l.one ≡ length l.other;
  same : take l.k l.one ≡ take l.k l.other;
}
