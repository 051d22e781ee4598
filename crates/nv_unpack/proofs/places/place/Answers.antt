use Rattle.std.proofs.Common.{◌∙◌, ◌++◌, List, ℕ, ap}
use Rattle.std.proofs.lemmas.Result.{IfOk-weaker}
use Rattle.nv_unpack.specs.Places.{or_root, parts_text}
use Rattle.nv_unpack.proofs.Parts.{placed}
use Rattle.nv_unpack.proofs.places.place.Goals as goal

pub returns : goal.returns
returns c = IfOk-weaker c.or_root.result _ _
    (λ text is. is ∙ ap or_root (placed c.args.base.now c.args.prefix.now c.args.path.now c.push_parts.new.text.items c.push_parts-2.new.text.items c.push_parts-3.new.text.items (c.in_ok-push_parts.ensures ∙ ap (λ (t : List ℕ). t ++ parts_text c.args.base.now) c.new-text.ensures.items) c.in_ok-push_parts-2.ensures c.in_ok-push_parts-3.ensures))
    c.or_root.ensures
