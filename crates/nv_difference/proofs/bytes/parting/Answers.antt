use Rattle.std.proofs.Common.{sym, ◌∙◌, arith}
use Rattle.std.proofs.lemmas.Grind.{common_steps}
use Rattle.nv_difference.proofs.Parts.{none_parts, some_parts}
use Rattle.nv_difference.proofs.bytes.parting.Goals as goal

pub returns-then-is_some : goal.returns-then-is_some
returns-then-is_some g c = λ x y first second.
    some_parts x y c.loop-at.at _ c.args.end c.parting_in-place.result (sym c.is_some.ensures ∙ c.if-is_some.true) (c.loop-at.invariant x y first second) (c.parting_in-place.ensures x y first second)
    (grind (arith, common_steps, c.min-count.ensures, c.loop-at-test.true))

pub loop-at-preserved : goal.loop-at-preserved
loop-at-preserved g c = λ x y first second.
    none_parts x y c.loop-at.at _ c.min-count.result c.parting_in-place.result (sym c.is_some.ensures ∙ c.if-is_some.false) (c.loop-at.invariant x y first second) (c.parting_in-place.ensures x y first second)
    (grind (arith, common_steps, c.min-count.ensures, c.loop-at-test.true, c.min-count.array_long))
