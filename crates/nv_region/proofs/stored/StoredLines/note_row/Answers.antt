use Rattle.std.proofs.Common.{inl, inr, Bool, ◌||◌, sym, ap, ◌∙◌, arith}
use Rattle.std.proofs.lemmas.Bool.{cases_eq, ne_eqb}
use Rattle.nv_region.specs.StoredLines.{is_stored}
use Rattle.nv_region.proofs.stored.StoredLines.note_row.Goals as goal

pub returns-then-end-first-eq1-clause-lines : goal.returns-then-end-first-eq1-clause-lines
returns-then-end-first-eq1-clause-lines c p stored = elim (cases_eq p c.args.first) [
  | inl here ↦ inr (omega (arith, here, c.if-end-first-eq1.true))
  | inr other ↦ inl (ap (λ (b : Bool). b || is_stored c.args.self.now p) (sym (ne_eqb p c.args.first other)) ∙ sym (c.note.ensures.lines p) ∙ stored)
]

pub returns-then-end-first-eq1-clause-here : goal.returns-then-end-first-eq1-clause-here
returns-then-end-first-eq1-clause-here c after i within from to = c.note.ensures.here after i within (omega (arith, from, to, c.if-end-first-eq1.true))

pub returns-then-end-first-eq1-clause-others : goal.returns-then-end-first-eq1-clause-others
returns-then-end-first-eq1-clause-others c after i within away = c.note.ensures.others after i within (λ is. away (omega (arith, is)) (omega (arith, is, c.if-end-first-eq1.true)))
