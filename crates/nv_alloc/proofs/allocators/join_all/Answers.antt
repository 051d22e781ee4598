use Rattle.std.proofs.Common.{◌≡◌, ◌<◌, ◌+◌, ◌-◌, ℕ, List, length, get_or, sym, subst, arith, ◌∙◌}
use Rattle.std.proofs.Math.ListN.{set}
use Rattle.std.proofs.lemmas.List.{length-set}
use Rattle.nv_super.specs.declared.owners.Run.{Run}
use Rattle.nv_alloc.specs.Taking.{HasBlock}
use Rattle.nv_alloc.specs.Inside.{AreBounds}
use Rattle.nv_alloc.proofs.Changed.{own_default, runs_before, joined_next, joined_before, joined_behind, place_of}
use Rattle.nv_alloc.proofs.allocators.join_all.Goals as goal

pub join-requires-clause-used : goal.join-requires-clause-used
join-requires-clause-used c = λ b i h.
    (let lt : c.loop-cpu.cpu < length c.loop-cpu.pools = omega arith in
    let was = runs_before _ _ _ _ c.loop-cpu.pools (get_or c.loop-cpu.pools c.loop-cpu.cpu c.index-pools-cpu.result) lt (omega arith) (own_default _ _ _ lt) c.loop-cpu.invariant in
    let P : List Run → Type 0 = λ x. HasBlock x b in c.requires.used c.loop-cpu.cpu b i (subst P was h))

pub loop-cpu-preserved : goal.loop-cpu-preserved
loop-cpu-preserved c =
    joined_next c.args.sup.now c.args.run c.args.sup.now.cpus c.loop-cpu.cpu c.args.pools.now c.loop-cpu.pools c.index-pools-cpu.result c.join.new.self (omega (arith, c.requires.count)) (omega arith) (omega arith) c.requires.bounds
    c.join.ensures.joined c.join.ensures.place c.loop-cpu.invariant

pub loop-cpu-init : goal.loop-cpu-init
loop-cpu-init c = joined_before _ _ _ _ c.requires.layout.cpus_from c.pool_of-home.ensures.pool.0 c.requires.apart

pub join-requires-clause-bound : goal.join-requires-clause-bound
join-requires-clause-bound c =
    let m = c.requires.layout.blocks_to in
    let some = c.requires.some in let last = c.requires.blocks (c.args.run.start + (c.args.run.count - 1)) (omega (arith, some), omega (arith, some)) in
    omega (arith, some, last, m)

pub returns-then-end : goal.returns-then-end
returns-then-end c =
    let lt : c.loop-cpu.cpu < length c.loop-cpu.pools = omega arith in
    let len : length c.loop-cpu.pools ≡ length c.args.pools.now = omega arith in
    let below : c.loop-cpu.cpu < c.args.sup.now.cpus = omega (arith, c.requires.count) in
    let next = joined_next c.args.sup.now c.args.run c.args.sup.now.cpus c.loop-cpu.cpu c.args.pools.now c.loop-cpu.pools c.index-pools-cpu.result c.join.new.self below lt len c.requires.bounds c.join.ensures.joined c.join.ensures.place c.loop-cpu.invariant in
    let same = length-set c.loop-cpu.pools c.loop-cpu.cpu c.join.new.self in
    let B : List (ℕ × ℕ) → Type 0 = λ x. AreBounds c.args.sup.now c.args.sup.now.cpus x in
    let lies = place_of c.args.sup.now c.args.sup.now.cpus c.loop-cpu.cpu (set c.loop-cpu.pools c.loop-cpu.cpu c.join.new.self) c.index-pools-cpu-in-loop-cpu.result below (omega (arith, same, lt)) (subst B (sym next.bounds) c.requires.bounds) in
    record { joined = joined_behind _ _ (c.loop-cpu.cpu + 1) _ _ c.requires.layout.cpus_from (same ∙ len) (let last = lies.1 in omega (arith, last, c.end.ensures, c.if-end.true)) c.requires.apart next }
