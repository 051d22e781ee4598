use Rattle.std.proofs.Common.{arith}
use Rattle.nv_alloc.proofs.Changed.{fullest_of}
use Rattle.nv_alloc.proofs.allocators.fullest.Goals as goal

pub returns : goal.returns
returns c = fullest_of _ _ c.loop-place.invariant.0 (λ d lt. c.loop-place.invariant.1 d (let t = c.loop-place-test.false in omega (arith, lt, t))) c.loop-place.invariant.2
