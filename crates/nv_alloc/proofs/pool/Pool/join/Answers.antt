use Rattle.std.proofs.Common.{◌⊎◌, ◌≤◌, ◌<◌, ◌+◌, ◌-◌, ℕ, arith, subst, sym}
use Rattle.nv_super.specs.Runs.{AreRuns, InRun}
use Rattle.nv_alloc.specs.Taking.{HasBlock}
use Rattle.nv_alloc.specs.PoolValue.{PoolState}
use Rattle.nv_alloc.specs.FreeRuns.{free_runs, IsPool}
use Rattle.nv_alloc.proofs.Changed.{both_bounds, none_joined}
use Rattle.nv_alloc.proofs.PoolMarks.{added, pool_apart, pool_few}
use Rattle.nv_alloc.proofs.pool.Pool.join.Goals as goal

pub overflow_add-self : goal.overflow_add-self
overflow_add-self c =
    let few = pool_few c.self.inside.marks c.self.inside.from c.self.inside.to c.self.inside.free c.self.inside.first c.self.invariant in
    omega (arith, few, c.requires.bound, c.min-to.ensures)

pub invariant_of-self : goal.invariant_of-self
invariant_of-self c =
    let low = c.max-from.ensures in let high = c.min-to.ensures in
    let done = added c.self.inside.marks c.clear.new.self c.self.inside.from c.self.inside.to c.self.inside.free c.self.inside.first c.word_start-base.result c.max-from.result c.min-to.result c.self.invariant c.word_start-base.ensures
    (omega (arith, low)) c.if-from-to.true (omega (arith, high))
    (λ b lo hi h. (let P : PoolState → Type 0 = λ v. HasBlock v.runs b in c.requires.used b (omega (arith, lo, low), omega (arith, hi, high)) (subst P c.self.view_is h))) c.clear.ensures in
    let P : ℕ → Type 0 = λ n. IsPool c.clear.new.self c.self.inside.from c.self.inside.to (c.self.inside.free + (c.min-to.result - c.max-from.result)) n in
    subst P (sym c.min-self-inside.ensures) done.pool

pub returns-then-from-to-clause-joined : goal.returns-then-from-to-clause-joined
returns-then-from-to-clause-joined c =
    let low = c.max-from.ensures in let high = c.min-to.ensures in
    let done = added c.self.inside.marks c.clear.new.self c.self.inside.from c.self.inside.to c.self.inside.free c.self.inside.first c.word_start-base.result c.max-from.result c.min-to.result c.self.invariant c.word_start-base.ensures
    (omega (arith, low)) c.if-from-to.true (omega (arith, high))
    (λ b lo hi h. (let P : PoolState → Type 0 = λ v. HasBlock v.runs b in c.requires.used b (omega (arith, lo, low), omega (arith, hi, high)) (subst P c.self.view_is h))) c.clear.ensures in
    let P : PoolState → Type 0 = λ v. AreRuns (λ b. HasBlock v.runs b ⊎ (((v.from ≤ b) × (b < v.to)) × InRun c.args.run b)) (free_runs c.clear.new.self c.self.inside.from c.self.inside.to) in
    subst P c.self.view_is (both_bounds _ _ _ _ c.args.run _ _ c.max-from.ensures c.min-to.ensures done.runs)

pub returns-else-from-to-clause-joined : goal.returns-else-from-to-clause-joined
returns-else-from-to-clause-joined c =
    let P : PoolState → Type 0 = λ v. AreRuns (λ b. HasBlock v.runs b ⊎ (((v.from ≤ b) × (b < v.to)) × InRun c.args.run b)) v.runs in
    subst P c.self.view_is (none_joined _ _ _ c.args.run _ _ c.max-from.ensures c.min-to.ensures c.if-from-to.false (pool_apart c.self.inside.marks c.self.inside.from c.self.inside.to))
