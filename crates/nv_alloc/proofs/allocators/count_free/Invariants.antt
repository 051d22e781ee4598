use Rattle.std.proofs.Common.{◌≡◌, ◌*◌, ◌^◌, ◌≤◌, take}
use Rattle.nv_alloc.specs.Taking.{all_blocks}
use Rattle.nv_alloc.specs.Inside.{lists_of}
use Rattle.nv_alloc.proofs.allocators.count_free.Given as goal

abbrev pub invariant-loop-pool : goal.invariant-loop-pool
invariant-loop-pool l = (l.blocks ≡ all_blocks (lists_of (take l.pool-index l.pools))) × (l.blocks ≤ l.pool-index * 2 ^ 32)
