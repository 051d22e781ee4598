use Rattle.std.proofs.Common.{◌≡◌, ◌+◌, ◌-◌, Some, cond, refl, sym, ◌∙◌, arith, inl, inr}
use Rattle.nv_radix.specs.Pages.{block_at, in_run}
use Rattle.nv_radix.proofs.Halves.{is_ready-low, is_ready-high, blocks_by_half, ready_by_half, run_behind, ready_bound}
use Rattle.nv_radix.proofs.RowSteps.{run_elsewhere}
use Rattle.nv_radix.proofs.index.FileIndex.set_part.Goals as goal

pub set_part-requires-clause-ready : goal.set_part-requires-clause-ready
set_part-requires-clause-ready c = λ p l h. sym (is_ready-low c.self.inside.front c.self.inside.rest p c.self.invariant.1 (omega (arith, h, c.requires.part, c.if-page-lt64.true))) ∙ (rw (← c.self.view_is) at c.requires.ready) p l h

pub invariant_of-self : goal.invariant_of-self
invariant_of-self c =
    let rises = c.set_part.ensures.rises in
    (rises, c.self.invariant.1, λ p l. ready_by_half c.self.inside.front c.self.inside.rest c.set_part.new.self c.self.inside.rest (λ q old new. new ≡ old) c.self.invariant.0 c.self.invariant.1 rises c.self.invariant.1 (λ q k. c.set_part.ensures.ready q) (λ q. refl) p ∙ c.self.invariant.2 p l)

pub set_part-requires-else-page-lt64-clause-ready : goal.set_part-requires-else-page-lt64-clause-ready
set_part-requires-else-page-lt64-clause-ready c = sym (is_ready-high c.self.inside.front c.self.inside.rest c.args.page c.self.invariant.0 c.if-page-lt64.false) ∙ (rw (← c.self.view_is) at c.requires.ready) c.args.page (omega arith) (omega (arith, c.requires.some))

pub invariant_of-self-else-page-lt64 : goal.invariant_of-self-else-page-lt64
invariant_of-self-else-page-lt64 c =
    let node = c.set_part-else-page-lt64.ensures.node in
    (c.self.invariant.0, node, λ p l. ready_by_half c.self.inside.front c.self.inside.rest c.self.inside.front c.set_part-else-page-lt64.new.self (λ q old new. new ≡ old) c.self.invariant.0 c.self.invariant.1 c.self.invariant.0 node (λ q k. refl) (λ q. c.set_part-else-page-lt64.ensures.ready q) p ∙ c.self.invariant.2 p l)

pub returns-then-page-lt64-clause-blocks : goal.returns-then-page-lt64-clause-blocks
returns-then-page-lt64-clause-blocks c = λ p. rw (← c.self.view_is) (blocks_by_half c.self.inside.front c.self.inside.rest c.set_part.new.self c.self.inside.rest (λ q old new. new ≡ cond (in_run c.args.page c.args.count q) (Some (c.args.block + (q - c.args.page))) old) c.self.invariant.0 c.self.invariant.1 c.set_part.ensures.rises c.self.invariant.1 (λ q l. c.set_part.ensures.blocks q) (λ q. rw (run_elsewhere c.args.page c.args.count (64 + q) (inr (omega (arith, c.requires.part, c.if-page-lt64.true)))) refl) p)

pub returns-then-page-lt64-clause-ready : goal.returns-then-page-lt64-clause-ready
returns-then-page-lt64-clause-ready c = λ p. rw (← c.self.view_is) (ready_by_half c.self.inside.front c.self.inside.rest c.set_part.new.self c.self.inside.rest (λ q old new. new ≡ old) c.self.invariant.0 c.self.invariant.1 c.set_part.ensures.rises c.self.invariant.1 (λ q l. c.set_part.ensures.ready q) (λ q. refl) p)

pub returns-else-page-lt64-clause-bound : goal.returns-else-page-lt64-clause-bound
returns-else-page-lt64-clause-bound c = ready_bound _ c.args.page c.self.invariant.2 ((rw (← c.self.view_is) at c.requires.ready) c.args.page (omega arith) (omega (arith, c.requires.some)))

pub returns-else-page-lt64-clause-blocks : goal.returns-else-page-lt64-clause-blocks
returns-else-page-lt64-clause-blocks c = λ p. rw (← c.self.view_is) (blocks_by_half c.self.inside.front c.self.inside.rest c.self.inside.front c.set_part-else-page-lt64.new.self (λ q old new. new ≡ cond (in_run c.args.page c.args.count q) (Some (c.args.block + (q - c.args.page))) old) c.self.invariant.0 c.self.invariant.1 c.self.invariant.0 c.set_part-else-page-lt64.ensures.node (λ q l. rw (run_elsewhere c.args.page c.args.count q (inl (omega (arith, l, c.if-page-lt64.false)))) refl) (λ q. c.set_part-else-page-lt64.ensures.blocks q ∙ run_behind c.args.page c.args.count c.args.block q (block_at c.self.inside.rest q) c.if-page-lt64.false) p)

pub returns-else-page-lt64-clause-ready : goal.returns-else-page-lt64-clause-ready
returns-else-page-lt64-clause-ready c = λ p. rw (← c.self.view_is) (ready_by_half c.self.inside.front c.self.inside.rest c.self.inside.front c.set_part-else-page-lt64.new.self (λ q old new. new ≡ old) c.self.invariant.0 c.self.invariant.1 c.self.invariant.0 c.set_part-else-page-lt64.ensures.node (λ q l. refl) (λ q. c.set_part-else-page-lt64.ensures.ready q) p)
