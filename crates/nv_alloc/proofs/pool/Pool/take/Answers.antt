use Rattle.std.proofs.Common.{inl, inr, ap, arith, subst}
use Rattle.nv_super.specs.Runs.{Apart}
use Rattle.nv_alloc.specs.Taking.{blocks_in}
use Rattle.nv_alloc.specs.PoolValue.{PoolState}
use Rattle.nv_alloc.proofs.Fronts.{front_done}
use Rattle.nv_alloc.proofs.PoolMarks.{pool_apart}
use Rattle.nv_alloc.proofs.pool.Pool.take.Goals as goal

pub returns-else-self-gt0-clause-taken : goal.returns-else-self-gt0-clause-taken
returns-else-self-gt0-clause-taken c =
    let P : PoolState → Type 0 = λ v. Apart v.runs in let after = subst P c.self.view_is (pool_apart c.self.inside.marks c.self.inside.from c.self.inside.to) in
    let blocks = ap (λ (v : PoolState). blocks_in v.runs) c.self.view_is in
    front_done _ _ _ _ _ _ c.loop-rest.invariant.steps (c.loop-rest.invariant.apart after) after (inr (omega (arith, blocks, c.self.invariant.counted, c.if-self-gt0.false)))

pub returns-after-loop-rest-clause-taken : goal.returns-after-loop-rest-clause-taken
returns-after-loop-rest-clause-taken c =
    let P : PoolState → Type 0 = λ v. Apart v.runs in let after = subst P c.self.view_is (pool_apart c.self.inside.marks c.self.inside.from c.self.inside.to) in
    front_done _ _ _ _ _ _ c.loop-rest.invariant.steps (c.loop-rest.invariant.apart after) after (inl (omega (arith, c.loop-rest-test.false)))
