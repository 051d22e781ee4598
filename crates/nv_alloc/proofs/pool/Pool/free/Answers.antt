use Rattle.std.proofs.Common.{subst}
use Rattle.nv_super.specs.Runs.{Apart}
use Rattle.nv_alloc.specs.PoolValue.{PoolState}
use Rattle.nv_alloc.proofs.PoolMarks.{pool_apart, pool_few}
use Rattle.nv_alloc.proofs.pool.Pool.free.Goals as goal

pub returns-clause-few : goal.returns-clause-few
returns-clause-few c = pool_few c.self.inside.marks c.self.inside.from c.self.inside.to c.self.inside.free c.self.inside.first c.self.invariant

pub returns-clause-apart : goal.returns-clause-apart
returns-clause-apart c = let P : PoolState → Type 0 = λ v. Apart v.runs in subst P c.self.view_is (pool_apart c.self.inside.marks c.self.inside.from c.self.inside.to)
