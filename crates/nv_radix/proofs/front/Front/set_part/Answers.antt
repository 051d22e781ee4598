use Rattle.std.proofs.Common.{◌≡◌, length, ap, ◌∙◌, arith}
use Rattle.std.specs.List.{refill}
use Rattle.nv_radix.proofs.LeafSteps.{leaf_set, leaf_same_ready}
use Rattle.nv_radix.proofs.FirstPages.{Rises-first, bits_set, refill_all, run_within}
use Rattle.nv_radix.proofs.front.Front.set_part.Goals as goal

pub set_places-requires-clause-part : goal.set_places-requires-clause-part
set_places-requires-clause-part c = rw c.deref_mut.ensures.value (run_within c.self.inside.mapped c.self.inside.blocks.items c.args.page c.args.count c.requires.some (rw (← c.self.view_is) at c.requires.ready))

pub invariant_of-self : goal.invariant_of-self
invariant_of-self c =
    let blocks = c.self.inside.blocks.items in
    let part = run_within c.self.inside.mapped blocks c.args.page c.args.count c.requires.some (rw (← c.self.view_is) at c.requires.ready) in
    let same : length c.set_places.new.blocks ≡ length blocks = (let lent = ap length c.deref_mut.ensures.value in omega (arith, lent)) in
    let size : length (refill (length blocks) blocks c.set_places.new.blocks) ≡ length blocks = ap length (refill_all (length blocks) blocks c.set_places.new.blocks same) ∙ same in
    (omega (arith, size, c.self.invariant.0), λ p l h. bits_set c.self.inside.mapped c.set_places.new.mapped blocks c.args.page c.args.count c.self.invariant.1 part c.set_places.ensures.bits p (omega (arith, size, l)) h)

pub returns-clause-blocks : goal.returns-clause-blocks
returns-clause-blocks c =
    let blocks = c.self.inside.blocks.items in
    let part = run_within c.self.inside.mapped blocks c.args.page c.args.count c.requires.some (rw (← c.self.view_is) at c.requires.ready) in
    let same : length c.set_places.new.blocks ≡ length blocks = (let lent = ap length c.deref_mut.ensures.value in omega (arith, lent)) in
    let written = refill_all (length blocks) blocks c.set_places.new.blocks same in
    let is = rw c.deref_mut.ensures.value at c.set_places.ensures.blocks in
    λ p. rw (written, ← c.self.view_is) (leaf_set c.self.inside.mapped _ blocks _ c.args.page c.args.block c.args.count p same c.self.invariant.0 part c.set_places.ensures.bits is)

pub returns-clause-ready : goal.returns-clause-ready
returns-clause-ready c =
    let blocks = c.self.inside.blocks.items in
    let same : length c.set_places.new.blocks ≡ length blocks = (let lent = ap length c.deref_mut.ensures.value in omega (arith, lent)) in
    let written = refill_all (length blocks) blocks c.set_places.new.blocks same in
    λ p. rw (written, ← c.self.view_is) (leaf_same_ready c.self.inside.mapped _ blocks _ p same)

pub returns-clause-rises : goal.returns-clause-rises
returns-clause-rises c =
    let blocks = c.self.inside.blocks.items in
    let same : length c.set_places.new.blocks ≡ length blocks = (let lent = ap length c.deref_mut.ensures.value in omega (arith, lent)) in
    let written = refill_all (length blocks) blocks c.set_places.new.blocks same in
    rw written (Rises-first c.set_places.new.mapped c.set_places.new.blocks (omega (arith, same, c.self.invariant.0)))
