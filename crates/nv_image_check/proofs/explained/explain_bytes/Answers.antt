use Rattle.std.proofs.Common.{IfOk, string_bytes, ap, subst, ◌∙◌, rules}
use Rattle.std.specs.Prelude.{Err}
use Rattle.nv_region.specs.Region.{Region}
use Rattle.nv_image_check.specs.Explained.{IsExplained}
use Rattle.std.proofs.lemmas.Result.{IfOk-weaker}
use Rattle.nv_image_check.proofs.Checked.{long_explained}
use Rattle.nv_image_check.proofs.explained.explain_bytes.Goals as goal

pub returns-in-Err-Length : goal.returns-in-Err-Length
returns-in-Err-Length g c = IfOk-weaker c.refused-in-Err-Length.result _ _ (λ checked said. long_explained c.args.bytes.now c.args.workers (string_bytes checked.text) checked.status (search rules)
    (c.from_bytes.ensures.length.0 (c.in-Err-Length.is ∙ ap Err c.in-Err-Length.field-0-is)) said) c.refused-in-Err-Length.ensures

pub returns-in_ok-open_system-in-Ok : goal.returns-in_ok-open_system-in-Ok
returns-in_ok-open_system-in-Ok g c = subst (λ (R : Region). IfOk c.explain_memory.result (λ checked. IsExplained R c.args.workers (string_bytes checked.text) checked.status))
    (c.in_ok-open_system-in-Ok.ensures.same ∙ c.in-Ok.ensures.region) c.explain_memory.ensures
