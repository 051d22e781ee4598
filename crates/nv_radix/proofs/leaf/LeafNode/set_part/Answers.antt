use Rattle.std.proofs.Common.{◌≡◌, length, ◌∙◌, arith}
use Rattle.std.proofs.lemmas.List.{with_items_is}
use Rattle.nv_radix.proofs.Leaves.{IsNode-leaf}
use Rattle.nv_radix.proofs.LeafSteps.{leaf_full, ready_page, leaf_set, leaf_same_ready}
use Rattle.nv_radix.proofs.leaf.LeafNode.set_part.Goals as goal

pub set_places-requires-clause-part : goal.set_places-requires-clause-part
set_places-requires-clause-part c =
    let full = leaf_full c.self.inside.mapped c.self.inside.blocks.items c.args.page (rw (← c.self.view_is) at c.requires.ready) c.self.invariant in
    let low = ready_page c.self.inside.mapped c.self.inside.blocks.items c.args.page (rw (← c.self.view_is) at c.requires.ready) in
    rw c.deref_mut.ensures.value (omega (arith, full, low, c.requires.part))

pub returns-clause-blocks : goal.returns-clause-blocks
returns-clause-blocks c =
    let full = leaf_full c.self.inside.mapped c.self.inside.blocks.items c.args.page (rw (← c.self.view_is) at c.requires.ready) c.self.invariant in
    let low = ready_page c.self.inside.mapped c.self.inside.blocks.items c.args.page (rw (← c.self.view_is) at c.requires.ready) in
    let same : length c.set_places.new.blocks ≡ length c.self.inside.blocks.items = omega arith in
    let written = with_items_is c.self.inside.blocks c.set_places.new.blocks (omega arith) in
    let is = rw c.deref_mut.ensures.value at c.set_places.ensures.blocks in
    λ p. rw (written, ← c.self.view_is) (leaf_set c.self.inside.mapped _ c.self.inside.blocks.items _ c.args.page c.args.block c.args.count p same (omega (arith, full)) (omega (arith, full, low, c.requires.part)) c.set_places.ensures.bits is)

pub returns-clause-ready : goal.returns-clause-ready
returns-clause-ready c =
    let written = with_items_is c.self.inside.blocks c.set_places.new.blocks (omega arith) in
    λ p. rw (written, ← c.self.view_is) (leaf_same_ready c.self.inside.mapped _ c.self.inside.blocks.items _ p (omega arith))

pub returns-clause-node : goal.returns-clause-node
returns-clause-node c =
    let written = with_items_is c.self.inside.blocks c.set_places.new.blocks (omega arith) in
    let same : length c.set_places.new.blocks ≡ length c.self.inside.blocks.items = omega arith in
    rw written (IsNode-leaf _ _ (λ l. same ∙ c.self.invariant (omega (arith, l, same))))
