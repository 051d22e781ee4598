use Rattle.std.proofs.Common.{inl, inr, ◌∙◌, sym}
use Rattle.std.proofs.lemmas.Bool.{false≢true}
use Rattle.std.proofs.lemmas.Result.{on_ok_weaker}
use Rattle.nv_deadpages.proofs.pairs.add_open.Goals as goal

pub returns-clause-only : goal.returns-clause-only
returns-clause-only c = on_ok_weaker c.add_block.result (λ only b there. elim (only b there) [
  | inl same ↦ inl (same, c.if-not-looks.false, λ none. false≢true (sym c.if-is_empty.false ∙ c.is_empty.ensures.1 none))
  | inr w ↦ inr w
]) c.add_block.ensures.only
