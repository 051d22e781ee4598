use Rattle.std.proofs.Common.{◌-◌, List, ap, sym, arith, subst}
use Rattle.nv_super.specs.declared.owners.Run.{Run}
use Rattle.nv_super.specs.Runs.{Apart}
use Rattle.nv_alloc.specs.Taking.{blocks_in}
use Rattle.nv_alloc.specs.PoolValue.{PoolState}
use Rattle.nv_alloc.specs.FreeRuns.{free_runs}
use Rattle.nv_alloc.specs.Inside.{TakesSome}
use Rattle.nv_alloc.proofs.PoolMarks.{FirstTaken, first_taken, pool_apart}
use Rattle.nv_alloc.proofs.pool.Pool.take_first.Goals as goal

all_taken : (c : goal.After-push_reserved) → FirstTaken c.self.inside.marks c.set.new.self c.self.inside.from c.self.inside.to c.self.inside.free c.next_free-start.result c.next_used-end.result c.args.need c.args.out.now.items
all_taken c =
    let blocks = ap (λ (v : PoolState). blocks_in v.runs) c.self.view_is in let start = c.next_free-start.ensures in let end = c.next_used-end.ensures in
    first_taken c.self.inside.marks c.set.new.self c.self.inside.from c.self.inside.to c.self.inside.free c.self.inside.first c.word_start-base.result c.next_free-start.result c.min-most.result c.next_used-end.result c.args.need c.args.out.now.items
    c.self.invariant c.requires.some (omega (arith, blocks, c.requires.free)) c.word_start-base.ensures start.order start.passed start.found c.min-most.ensures end.order end.passed end.found c.set.ensures

pub overflow_sub-self : goal.overflow_sub-self
overflow_sub-self c =
    let blocks = ap (λ (v : PoolState). blocks_in v.runs) c.self.view_is in let start = c.next_free-start.ensures in let end = c.next_used-end.ensures in
    (first_taken c.self.inside.marks c.set.new.self c.self.inside.from c.self.inside.to c.self.inside.free c.self.inside.first c.word_start-base.result c.next_free-start.result c.min-most.result c.next_used-end.result c.args.need c.args.out.now.items
    c.self.invariant c.requires.some (omega (arith, blocks, c.requires.free)) c.word_start-base.ensures start.order start.passed start.found c.min-most.ensures end.order end.passed end.found c.set.ensures).enough

pub invariant_of-self : goal.invariant_of-self
invariant_of-self c = (all_taken c).pool

pub returns-clause-less : goal.returns-clause-less
returns-clause-less c = let t = all_taken c in let some = t.some in omega (arith, some, c.requires.some)

pub returns-clause-steps : goal.returns-clause-steps
returns-clause-steps c =
    let P : PoolState → Type 0 = λ v. TakesSome c.args.need v.runs c.args.out.now.items (c.args.need - (c.next_used-end.result - c.next_free-start.result)) (free_runs c.set.new.self c.self.inside.from c.self.inside.to) c.push_reserved.new.self.items in
    let Q : List Run → Type 0 = λ xs. TakesSome c.args.need (free_runs c.self.inside.marks c.self.inside.from c.self.inside.to) c.args.out.now.items (c.args.need - (c.next_used-end.result - c.next_free-start.result)) (free_runs c.set.new.self c.self.inside.from c.self.inside.to) xs in
    subst P c.self.view_is (subst Q (sym c.push_reserved.ensures.items) (all_taken c).steps)

pub returns-clause-room : goal.returns-clause-room
returns-clause-room c = let t = all_taken c in let some = t.some in let few = t.few in omega (arith, some, few, c.requires.room, c.push_reserved.ensures.len, c.push_reserved.ensures.capacity)

pub returns-clause-apart : goal.returns-clause-apart
returns-clause-apart c = let P : PoolState → Type 0 = λ v. Apart v.runs in subst P c.self.view_is (pool_apart c.self.inside.marks c.self.inside.from c.self.inside.to)
