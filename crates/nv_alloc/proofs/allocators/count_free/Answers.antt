use Rattle.std.proofs.Common.{arith, ap, ◌∙◌}
use Rattle.std.proofs.lemmas.List.{take_all}
use Rattle.nv_alloc.specs.Taking.{all_blocks}
use Rattle.nv_alloc.specs.Inside.{lists_of}
use Rattle.nv_alloc.proofs.Changed.{blocks_more}
use Rattle.nv_alloc.proofs.allocators.count_free.Goals as goal

pub loop-pool-preserved : goal.loop-pool-preserved
loop-pool-preserved c =
    let i = c.loop-pool.invariant in let m = blocks_more c.args.pools.now c.loop-pool.pool-index c.pool-item.result c.loop-pool-test.true c.pool-item.is in
    (omega (arith, i, m, c.free-blocks.ensures.value), omega (arith, i, c.free-blocks.ensures.few))

pub returns : goal.returns
returns c = c.loop-pool.invariant.0 ∙ ap (λ x. all_blocks (lists_of x)) (take_all c.loop-pool.pool-index c.args.pools.now c.loop-pool-test.false)
