use Rattle.std.proofs.Common.{◌≡◌, []}
use Rattle.std.proofs.Math.ListN.{replicate}
use Rattle.nv_names.proofs.spreading.empty_buckets.Given as goal

-- each bucket so far has no name
abbrev pub invariant-loop : goal.invariant-loop
invariant-loop l = l.many.items ≡ replicate l.counter []
