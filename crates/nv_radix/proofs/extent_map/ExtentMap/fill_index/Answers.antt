use Rattle.std.proofs.Common.{ℕ, Option, ap, sym, ◌∙◌, arith}
use Rattle.std.proofs.lemmas.Result.{on_ok_weaker}
use Rattle.nv_radix.specs.Runs.{Runs, block_by}
use Rattle.nv_radix.proofs.Fronts.{over, block_by-front, runs_alone}
use Rattle.nv_radix.proofs.extent_map.ExtentMap.fill_index.Goals as goal

pub returns-then-not-is_ready-clause-index : goal.returns-then-not-is_ready-clause-index
returns-then-not-is_ready-clause-index c = λ p. c.in_ok-fill_index.ensures.index p
    ∙ sym (runs_alone c.self.inside.front c.self.inside.runs (λ q low. sym (c.is_ready.ensures q (omega (arith, low))) ∙ c.if-not-is_ready.true) p)
    ∙ ap (λ (runs : Runs). block_by runs p) c.self.view_is

pub returns-then-not-is_ready-clause-extents : goal.returns-then-not-is_ready-clause-extents
returns-then-not-is_ready-clause-extents c = c.in_ok-fill_index.ensures.extents

pub returns-clause-index : goal.returns-clause-index
returns-clause-index c = on_ok_weaker c.runs_into.result (λ _ p. c.in_ok-put_leaf.ensures p
    ∙ ap (λ (o : Option ℕ). over 64 c.self.inside.front o p) (c.in_ok-fill_index.ensures.index p)
    ∙ sym (block_by-front 64 c.self.inside.front c.self.inside.runs p)
    ∙ ap (λ (runs : Runs). block_by runs p) c.self.view_is) c.runs_into.ensures

pub returns-clause-extents : goal.returns-clause-extents
returns-clause-extents c = c.runs_into.ensures
