use Rattle.std.proofs.Common.{◌≡◌, ◌+◌, ◌-◌, inl, inr, ℕ, subst, get_or, arith}
use Rattle.std.specs.List.{Contains}
use Rattle.std.proofs.lemmas.Bool.{cases_lt}
use Rattle.nv_deadpages.proofs.needed.has_all_before_the_last.Goals as goal

pub loop-behind-preserved : goal.loop-behind-preserved
loop-behind-preserved c = λ k below. elim (cases_lt (k + 1) c.loop-behind.behind) [
  | inl before ↦ c.loop-behind.invariant k before
  | inr last ↦ (let here : c.loop-behind.behind - 1 ≡ k = omega (arith, below, last) in subst (λ (n : ℕ). Contains c.args.needed.now.blocks (get_or c.args.pages.now n 0)) here (c.has_block.ensures c.if-not-has_block.false))
]
