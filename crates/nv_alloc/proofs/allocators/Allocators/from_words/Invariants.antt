use Rattle.nv_alloc.specs.Inside.{ArePools, AreBounds, lists_of, bounds_of}
use Rattle.nv_alloc.proofs.allocators.Allocators.from_words.Given as goal

abbrev pub invariant-loop-cpu : goal.invariant-loop-cpu
invariant-loop-cpu l = ArePools l.words l.sup l.cpu (lists_of l.pools.items) × AreBounds l.sup l.cpu (bounds_of l.pools.items)
