use Rattle.std.proofs.Common.{◌≡◌, ℕ, ◌<◌, ◌/◌, ◌||◌, Bool, eqb, length, ◌∙◌, ap, sym, arith, ltb}
use Rattle.std.proofs.lemmas.Bool.Decides.{nat_tests}
use Rattle.nv_radix.proofs.Leaves.{is_ready-leaf, IsNode-leaf}
use Rattle.nv_radix.proofs.LeafSteps.{made_leaf, made_ready}
use Rattle.nv_radix.proofs.leaf.LeafNode.make_ready.Goals as goal

pub returns-in_ok-resize-clause-blocks : goal.returns-in_ok-resize-clause-blocks
returns-in_ok-resize-clause-blocks c = λ p. rw (← c.self.view_is) (made_ready c.self.inside.mapped c.self.inside.blocks.items _ p (let t = c.if-is_empty.true in grind (arith, nat_tests, c.is_empty.ensures, c.self.inside.blocks.ok.0)))

pub returns-in_ok-resize-clause-ready : goal.returns-in_ok-resize-clause-ready
returns-in_ok-resize-clause-ready c =
    let full : length c.resize.new.self.items ≡ 64 = omega (arith, c.in_ok-resize.ensures.len, c.resize.new.self.ok.0) in
    λ p. rw (← c.self.view_is) (is_ready-leaf 0 c.resize.new.self.items p ∙ ap (λ (n : ℕ). ltb p n) full ∙ made_leaf (length c.self.inside.blocks.items) p c.args._page c.requires c.self.invariant ∙ ap (λ (b : Bool). eqb (p / 64) (c.args._page / 64) || b) (sym (is_ready-leaf c.self.inside.mapped c.self.inside.blocks.items p)))

pub returns-in_ok-resize-clause-node : goal.returns-in_ok-resize-clause-node
returns-in_ok-resize-clause-node c = IsNode-leaf 0 c.resize.new.self.items (λ l. omega (arith, c.in_ok-resize.ensures.len, c.resize.new.self.ok.0))

pub returns-else-is_empty-clause-ready : goal.returns-else-is_empty-clause-ready
returns-else-is_empty-clause-ready c =
    let some : 0 < length c.self.inside.blocks.items = (let t = c.if-is_empty.false in grind (arith, nat_tests, c.is_empty.ensures, c.self.inside.blocks.ok.0)) in
    λ p. rw (← c.self.view_is) (is_ready-leaf c.self.inside.mapped c.self.inside.blocks.items p ∙ ap (λ (n : ℕ). ltb p n) (c.self.invariant some) ∙ made_leaf (length c.self.inside.blocks.items) p c.args._page c.requires c.self.invariant ∙ ap (λ (b : Bool). eqb (p / 64) (c.args._page / 64) || b) (sym (is_ready-leaf c.self.inside.mapped c.self.inside.blocks.items p)))

pub returns-else-is_empty-clause-node : goal.returns-else-is_empty-clause-node
returns-else-is_empty-clause-node c = rw (← c.self.view_is) (IsNode-leaf c.self.inside.mapped c.self.inside.blocks.items c.self.invariant)
