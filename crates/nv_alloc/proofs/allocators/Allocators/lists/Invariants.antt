use Rattle.std.proofs.Common.{◌≡◌, take}
use Rattle.nv_alloc.specs.FreeLists.{runs_in}
use Rattle.nv_alloc.specs.Inside.{lists_of}
use Rattle.nv_alloc.proofs.allocators.Allocators.lists.Given as goal

abbrev pub invariant-loop-pool : goal.invariant-loop-pool
invariant-loop-pool l = runs_in l.lists.items ≡ lists_of (take l.pool-index l.self-inside.pools.items)
