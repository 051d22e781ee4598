use Rattle.std.proofs.Common.{◌≡◌, ◌≤◌, [], replicate, vec_capacity}
use Rattle.nv_numbered.specs.Leaved.{leaves_of}
use Rattle.nv_numbered.proofs.leaves.bare_leaves.Given as goal

-- the leaves so far have no words
abbrev pub invariant-loop : goal.invariant-loop
invariant-loop l = (leaves_of l.leaves.items ≡ replicate l.counter []) × (l.count ≤ vec_capacity l.leaves)
