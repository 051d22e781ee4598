use Rattle.std.proofs.Common.{◌<◌}
use Rattle.std.specs.Vec.{vec_len}
use Rattle.nv_names.specs.Buckets.{all_lines, AreMany}
use Rattle.nv_names.proofs.Spreads.{Moves}
use Rattle.nv_names.proofs.spreading.spread.Given as goal

-- the names that have moved stand in their buckets, and those that are left are the others
abbrev pub invariant-loop-line : goal.invariant-loop-line
invariant-loop-line l = record {
  moves : Moves l.one (all_lines l.many.items) l.listed.items;
  many : AreMany l.many.items;
  some : 0 < vec_len l.many;
}

-- fewer lines are left
abbrev pub decreases-loop-line : goal.decreases-loop-line
decreases-loop-line l = vec_len l.listed
