use Rattle.std.proofs.Common.{◌≡◌, ◌≤◌, ◌++◌, map}
use Rattle.std.specs.Vec.{vec_len, vec_capacity}
use Rattle.nv_names.specs.Table.{fresh_line, FindSame, AreBeside}
use Rattle.nv_names.proofs.fresh.settle.Given as goal

-- the names that both have together are the same
abbrev pub invariant-loop-entry : goal.invariant-loop-entry
invariant-loop-entry l = record {
  beside : AreBeside l.buckets (map fresh_line l.fresh.items);
  same : FindSame (l.initial.buckets ++ map fresh_line l.initial.fresh.items) (l.buckets ++ map fresh_line l.fresh.items);
  len : vec_len l.fresh ≤ vec_len l.initial.fresh;
  capacity : vec_capacity l.fresh ≡ vec_capacity l.initial.fresh;
}

-- fewer names are left
abbrev pub decreases-loop-entry : goal.decreases-loop-entry
decreases-loop-entry l = vec_len l.fresh
