use Rattle.std.proofs.Common.{◌∙◌, ◌++◌, ℕ, ◌+◌, List, sym, ap}
use Rattle.std.proofs.lemmas.List.{take_rest}
use Rattle.std.proofs.lemmas.Result.{on_ok_weaker}
use Rattle.nv_unpack.specs.Places.{parts_text}
use Rattle.nv_unpack.proofs.Parts.{pushed, pushed_last}
use Rattle.nv_unpack.proofs.places.push_parts.Goals as goal

pub loop-at-preserved : goal.loop-at-preserved
loop-at-preserved c =
    let old = c.loop-at.text.items in
    let left = c.loop-at.left.now in
    let i = c.in-Some.at in
    ap (λ (t : List ℕ). c.push_part.new.text.items ++ parts_text t) (take_rest left (i + 1))
    ∙ pushed old c.push_part.new.text.items left (c.args.text.now.items ++ parts_text c.args.path.now) i (sym c.in-Some.ensures) c.in_ok-push_part.ensures c.loop-at.invariant

pub returns : goal.returns
returns c = on_ok_weaker c.push_part-2.result
    (λ more. pushed_last c.loop-at.text.items c.push_part-2.new.text.items c.loop-at.left.now (c.args.text.now.items ++ parts_text c.args.path.now) (sym c.in_default.ensures) more c.loop-at.invariant)
    c.push_part-2.ensures
