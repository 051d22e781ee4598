use Rattle.std.proofs.Common.{ℕ, ltb, ap, sym, ◌∙◌}
use Rattle.nv_radix.proofs.Leaves.{is_ready-leaf}
use Rattle.nv_radix.proofs.FirstPages.{earlier}
use Rattle.nv_radix.proofs.front.Front.is_ready.Goals as goal

pub returns-clause-ready : goal.returns-clause-ready
returns-clause-ready c = rw (← c.self.view_is) (ap (λ (n : ℕ). ltb c.args.page n) c.len.ensures.value ∙ sym (is_ready-leaf c.self.inside.mapped c.self.inside.blocks.items c.args.page))

pub returns-clause-before : goal.returns-clause-before
returns-clause-before c = λ e p l. rw (← c.self.view_is) (is_ready-leaf c.self.inside.mapped c.self.inside.blocks.items p ∙ ap (λ (n : ℕ). ltb p n) (sym c.len.ensures.value) ∙ earlier c.args.page c.len.result p e l)
