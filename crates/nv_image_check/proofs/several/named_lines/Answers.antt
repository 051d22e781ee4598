use Rattle.std.proofs.Common.{◌∙◌, ap, sym}
use Rattle.std.specs.List.{flat_map}
use Rattle.std.proofs.lemmas.List.{take_all}
use Rattle.std.proofs.lemmas.List.Folds.{flat_map-map}
use Rattle.nv_image_check.specs.Several.{named_line}
use Rattle.nv_image_check.proofs.several.named_lines.Goals as goal

pub returns : goal.returns
returns c =
    let named = named_line c.args.name.now in
    c.loop-line.invariant
    ∙ ap (flat_map (λ line. named line.now)) (take_all c.loop-line.line-index c.deref-line-items.result.now c.loop-line-test.false ∙ c.deref-line-items.ensures.value)
    ∙ sym (flat_map-map named (λ line. line.now) c.in_ok-lines.lines.items)
    ∙ ap (flat_map named) c.in_ok-lines.ensures
