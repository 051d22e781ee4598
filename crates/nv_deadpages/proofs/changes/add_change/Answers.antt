use Rattle.std.proofs.Common.{inl, inr}
use Rattle.std.proofs.lemmas.Result.{on_ok_weaker}
use Rattle.nv_deadpages.proofs.changes.add_change.Goals as goal

pub returns-then-has_change-clause-only : goal.returns-then-has_change-clause-only
returns-then-has_change-clause-only c = on_ok_weaker c.add_block.result (λ only b there. elim (only b there) [ inl same ↦ inl (same, c.has_change.ensures c.if-has_change.true) | inr w ↦ inr w ]) c.add_block.ensures.only
