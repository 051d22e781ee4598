use Rattle.std.proofs.Common.{◌-◌, refl, sym, ◌∙◌, arith}
use Rattle.nv_radix.proofs.Halves.{is_ready-low, is_ready-high}
use Rattle.nv_radix.proofs.index.FileIndex.ready.Goals as goal

pub returns-then-page-lt64-clause-ready : goal.returns-then-page-lt64-clause-ready
returns-then-page-lt64-clause-ready c = rw (← c.self.view_is) (c.is_ready.ensures.ready ∙ sym (is_ready-low c.self.inside.front c.self.inside.rest c.args.page c.self.invariant.1 c.if-page-lt64.true))

pub returns-then-page-lt64-clause-before : goal.returns-then-page-lt64-clause-before
returns-then-page-lt64-clause-before c = λ low is p l. rw (← c.self.view_is) (is_ready-low c.self.inside.front c.self.inside.rest p c.self.invariant.1 (omega (arith, l, low)) ∙ c.is_ready.ensures.before is p l)

pub returns-then-page-lt64-clause-leaf : goal.returns-then-page-lt64-clause-leaf
returns-then-page-lt64-clause-leaf c = λ l p e. absurd (omega (arith, l, c.if-page-lt64.true))

pub returns-else-page-lt64-clause-ready : goal.returns-else-page-lt64-clause-ready
returns-else-page-lt64-clause-ready c = rw (← c.self.view_is) (c.is_ready-else-page-lt64.ensures (c.args.page - 64) refl ∙ sym (is_ready-high c.self.inside.front c.self.inside.rest c.args.page c.self.invariant.0 c.if-page-lt64.false))

pub returns-else-page-lt64-clause-before : goal.returns-else-page-lt64-clause-before
returns-else-page-lt64-clause-before c = λ low is p l. absurd (omega (arith, low, c.if-page-lt64.false))

pub returns-else-page-lt64-clause-leaf : goal.returns-else-page-lt64-clause-leaf
returns-else-page-lt64-clause-leaf c = λ l p e. rw (← c.self.view_is) (is_ready-high c.self.inside.front c.self.inside.rest p c.self.invariant.0 (omega (arith, e, c.if-page-lt64.false)) ∙ sym (c.is_ready-else-page-lt64.ensures (p - 64) (omega (arith, e, c.if-page-lt64.false))))

pub returns-else-page-lt64-clause-beyond : goal.returns-else-page-lt64-clause-beyond
returns-else-page-lt64-clause-beyond c = λ l. c.is_ready-else-page-lt64.ensures (c.args.page - 64) refl ∙ sym (is_ready-high c.self.inside.front c.self.inside.rest c.args.page c.self.invariant.0 c.if-page-lt64.false) ∙ c.self.invariant.2 c.args.page l
