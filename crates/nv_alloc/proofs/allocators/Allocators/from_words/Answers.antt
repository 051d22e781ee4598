use Rattle.std.proofs.Common.{ℕ, arith, sym, ◌∙◌, subst}
use Rattle.nv_super.specs.Layout.{pool_start}
use Rattle.nv_super.specs.Runs.{AreRuns}
use Rattle.nv_alloc.specs.Inside.{IsClear}
use Rattle.nv_alloc.proofs.Pools.{lists_length}
use Rattle.nv_alloc.proofs.Changed.{pool_bounds, pools_more, bounds_more}
use Rattle.nv_alloc.proofs.Sound.{made_whole}
use Rattle.nv_alloc.proofs.allocators.Allocators.from_words.Goals as goal

pub between-requires-clause-within : goal.between-requires-clause-within
between-requires-clause-within c =
    let b = pool_bounds c.args.sup.now c.loop-cpu.cpu c.requires.layout c.loop-cpu-test.true in let e = c.pool-start.ensures.end in let w = c.requires.covers in omega (arith, b, e, w)

pub loop-cpu-preserved : goal.loop-cpu-preserved
loop-cpu-preserved c =
    let P : ℕ → Type 0 = λ n. AreRuns (IsClear c.args.words.now n c.pool-start.result.1) c.in_ok-pool.pool.runs in
    let Q : ℕ → Type 0 = λ n. AreRuns (IsClear c.args.words.now (pool_start c.args.sup.now c.loop-cpu.cpu) n) c.in_ok-pool.pool.runs in
    rw c.in_ok-push.ensures.items (
      pools_more _ _ _ _ _ (subst Q c.pool-start.ensures.end (subst P c.pool-start.ensures.start c.in_ok-pool.ensures.runs)) c.loop-cpu.invariant.0,
      bounds_more c.args.sup.now c.loop-cpu.cpu c.loop-cpu.pools.items c.in_ok-pool.pool (sym (lists_length c.loop-cpu.pools.items) ∙ c.loop-cpu.invariant.0.count) (c.in_ok-pool.ensures.place.0 ∙ c.pool-start.ensures.start) (c.in_ok-pool.ensures.place.1 ∙ c.pool-start.ensures.end) c.loop-cpu.invariant.1,
    )

pub invariant_of-result : goal.invariant_of-result
invariant_of-result c = made_whole _ _ c.loop-cpu.cpu _ c.requires.layout (omega arith) c.loop-cpu.invariant.0 c.loop-cpu.invariant.1

pub returns-clause-sound : goal.returns-clause-sound
returns-clause-sound c = (made_whole _ _ c.loop-cpu.cpu c.loop-cpu.pools.items c.requires.layout (omega arith) c.loop-cpu.invariant.0 c.loop-cpu.invariant.1).sound
