use Rattle.std.proofs.Common.{refl, sym, ◌∙◌}
use Rattle.nv_radix.proofs.Leaves.{IsNode-leaf}
use Rattle.nv_radix.proofs.LeafSteps.{low_bits, low_only, leaf_cut, leaf_uncut, leaf_same_ready}
use Rattle.nv_radix.proofs.leaf.LeafNode.cut.Goals as goal
use Rattle.nv_radix.proofs.leaf.LeafNode.cut.Goals.{else-first_page-lt64-via-then-first_page-lt64+else-self-first_page-gt0, else-first_page-lt64-via-else-first_page-lt64}

pub returns-then-self-first_page-gt0-clause-blocks : goal.returns-then-self-first_page-gt0-clause-blocks
returns-then-self-first_page-gt0-clause-blocks c = λ p. rw (← c.self.view_is) (leaf_cut c.self.inside.mapped _ c.self.inside.blocks.items c.args.first_page p (low_bits c.self.inside.mapped c.args.first_page p c.if-first_page-lt64.true))

pub returns-then-self-first_page-gt0-clause-ready : goal.returns-then-self-first_page-gt0-clause-ready
returns-then-self-first_page-gt0-clause-ready c = λ p l. rw (← c.self.view_is) (leaf_same_ready c.self.inside.mapped _ c.self.inside.blocks.items c.self.inside.blocks.items p refl)

pub returns-then-self-first_page-gt0-clause-no_more : goal.returns-then-self-first_page-gt0-clause-no_more
returns-then-self-first_page-gt0-clause-no_more c = λ p e. rw (← c.self.view_is) (sym (leaf_same_ready c.self.inside.mapped _ c.self.inside.blocks.items c.self.inside.blocks.items p refl) ∙ e)

pub returns-then-self-first_page-gt0-clause-node : goal.returns-then-self-first_page-gt0-clause-node
returns-then-self-first_page-gt0-clause-node c = IsNode-leaf _ c.self.inside.blocks.items c.self.invariant

pub returns-else-first_page-lt64-clause-blocks : goal.returns-else-first_page-lt64-clause-blocks
returns-else-first_page-lt64-clause-blocks c = elim c.else-first_page-lt64.branch [
  | else-first_page-lt64-via-then-first_page-lt64+else-self-first_page-gt0 w ↦ λ p. rw (← c.self.view_is) (leaf_cut c.self.inside.mapped _ c.self.inside.blocks.items c.args.first_page p (low_only c.self.inside.mapped c.args.first_page p w.if-self-first_page-gt0.false))
  | else-first_page-lt64-via-else-first_page-lt64 w ↦ λ p. rw (← c.self.view_is) (leaf_uncut c.self.inside.mapped c.self.inside.blocks.items c.args.first_page p c.self.invariant w.if-first_page-lt64.false)
]

pub returns-else-first_page-lt64-clause-node : goal.returns-else-first_page-lt64-clause-node
returns-else-first_page-lt64-clause-node c = rw (← c.self.view_is) (IsNode-leaf c.self.inside.mapped c.self.inside.blocks.items c.self.invariant)
