use Rattle.std.proofs.Common.{string_bytes, ap, ◌∙◌, rules}
use Rattle.std.specs.Prelude.{Err}
use Rattle.nv_image_check.proofs.Checked.{long_check}
use Rattle.std.proofs.lemmas.Result.{IfOk-weaker}
use Rattle.nv_image_check.proofs.checking.check_bytes.Goals as goal

pub returns-in-Err-Length : goal.returns-in-Err-Length
returns-in-Err-Length g c = IfOk-weaker c.refused-in-Err-Length.result _ _ (λ checked said. long_check c.args.output c.args.bytes.now c.args.workers (string_bytes checked.text) checked.status (search rules)
    (c.from_bytes.ensures.length.0 (c.in-Err-Length.is ∙ ap Err c.in-Err-Length.field-0-is)) said) c.refused-in-Err-Length.ensures
