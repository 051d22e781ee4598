use Rattle.std.proofs.Common.{◌≡◌, ℕ, ◌+◌, ◌<◌, ◌≤◌, ◌/◌, length, sym, subst, add-one, arith}
use Rattle.std.specs.Int.{div_ceil}
use Rattle.nv_map.specs.Marks.{AreRaised}
use Rattle.nv_map.proofs.Runs.{cell_reached, first_reached, raised_more, raises_run}
use Rattle.nv_map.proofs.marks.Marks.mark.Goals as goal

pub raise-requires : goal.raise-requires
raise-requires c =
    let m = c.args.self.now in
    let inside : c.min-end.result ≤ m.blocks = omega (arith, c.min-end.ensures) in
    let to : c.loop-place.place < div_ceil c.min-end.result m.each = subst (λ (n : ℕ). c.loop-place.place < n) c.div_ceil-place-end.ensures c.loop-place-test.true in
    let lt = cell_reached m.each c.min-end.result (length m.uses.items) c.loop-place.place c.requires.some (omega (arith, inside, c.requires.room)) to in
    let long = c.loop-place.invariant.count in
    omega (arith, lt, long)

pub loop-place-preserved : goal.loop-place-preserved
loop-place-preserved c = rw add-one (raised_more _ c.loop-place.place c.args.kind _ _ _ c.loop-place.auto.place c.loop-place.invariant c.raise.ensures)

pub returns-after-loop-place : goal.returns-after-loop-place
returns-after-loop-place c =
    let m = c.args.self.now in
    let end = c.min-end.result in
    let inside : end ≤ m.blocks = omega (arith, c.min-end.ensures) in
    let short : end ≤ c.args.start + c.args.count = omega (arith, c.min-end.ensures, c.saturating_add.ensures) in
    let at : c.loop-place.place ≡ div_ceil end m.each = omega (arith, c.loop-place.auto.place-end (subst (λ (n : ℕ). c.args.start / m.each ≤ n) (sym c.div_ceil-place-end.ensures) (first_reached m.each c.args.start end c.requires.some c.if-start-end.true)), c.loop-place-test.false, c.div_ceil-place-end.ensures) in
    raises_run c.args.start c.args.count end c.args.kind m c.loop-place.self c.requires.some c.if-start-end.true inside short
    (λ n below lt. omega (arith, below, lt, c.min-end.ensures, c.saturating_add.ensures, c.fits-self))
    (subst (λ (n : ℕ). AreRaised (c.args.start / m.each) n c.args.kind m c.loop-place.self) at c.loop-place.invariant)
