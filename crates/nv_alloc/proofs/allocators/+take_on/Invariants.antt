use Rattle.std.proofs.Common.{◌+◌, ◌*◌, cond, eqb}
use Rattle.nv_alloc.specs.Taking.{blocks_in, pool_at}
use Rattle.nv_alloc.specs.Inside.{lists_of}
use Rattle.nv_alloc.proofs.allocators.+take_on.Given as goal

abbrev pub decreases-take_on : goal.decreases-take_on
decreases-take_on l = 2 * l.need + cond (eqb (blocks_in (pool_at (lists_of l.pools.now) l.cpu)) 0) 1 0
