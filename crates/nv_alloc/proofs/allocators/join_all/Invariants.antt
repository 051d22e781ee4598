use Rattle.nv_alloc.specs.Inside.{JoinedUpTo}
use Rattle.nv_alloc.proofs.allocators.join_all.Given as goal

abbrev pub invariant-loop-cpu : goal.invariant-loop-cpu
invariant-loop-cpu l = JoinedUpTo l.sup l.run l.cpu l.initial.pools l.pools
