use Rattle.std.proofs.lemmas.Result.{IfOk-weaker}
use Rattle.serde_json.specs.View.{view}
use Rattle.nv_json.proofs.report.report_json.Goals as goal

pub returns : goal.returns
returns c =
    IfOk-weaker c.to_string.result _ _ (λ text order. (view c.in_ok-report.report, c.in_ok-report.ensures, order)) c.to_string.ensures.order
