use Rattle.std.proofs.Common.{arith}
use Rattle.std.proofs.lemmas.List.{length-set}
use Rattle.nv_radix.proofs.LeafSteps.{leaf_full, ready_page, leaf_set_one, leaf_same_ready}
use Rattle.nv_radix.proofs.leaf.Leaf.set_page.Goals as goal

pub overflow_shl-self : goal.overflow_shl-self
overflow_shl-self c =
    let full = leaf_full c.self.inside.mapped c.self.inside.blocks.items c.args.page (rw (← c.self.view_is) at c.requires) c.self.invariant in
    let low = ready_page c.self.inside.mapped c.self.inside.blocks.items c.args.page (rw (← c.self.view_is) at c.requires) in
    omega (arith, full, low)

pub index_mut-requires : goal.index_mut-requires
index_mut-requires c =
    let low = ready_page c.self.inside.mapped c.self.inside.blocks.items c.args.page (rw (← c.self.view_is) at c.requires) in
    omega (arith, low, c.self.inside.blocks.ok.0)

pub returns-clause-bound : goal.returns-clause-bound
returns-clause-bound c =
    let full = leaf_full c.self.inside.mapped c.self.inside.blocks.items c.args.page (rw (← c.self.view_is) at c.requires) c.self.invariant in
    let low = ready_page c.self.inside.mapped c.self.inside.blocks.items c.args.page (rw (← c.self.view_is) at c.requires) in
    omega (arith, full, low)

pub returns-clause-blocks : goal.returns-clause-blocks
returns-clause-blocks c =
    let full = leaf_full c.self.inside.mapped c.self.inside.blocks.items c.args.page (rw (← c.self.view_is) at c.requires) c.self.invariant in
    let low = ready_page c.self.inside.mapped c.self.inside.blocks.items c.args.page (rw (← c.self.view_is) at c.requires) in
    λ p. rw (← c.self.view_is) (leaf_set_one c.self.inside.mapped c.self.inside.blocks.items c.args.page c.args.block p low (omega (arith, full)))

pub returns-clause-ready : goal.returns-clause-ready
returns-clause-ready c = λ p. rw (← c.self.view_is) (leaf_same_ready c.self.inside.mapped _ c.self.inside.blocks.items _ p (length-set c.self.inside.blocks.items c.args.page c.args.block))
