use Rattle.std.proofs.lemmas.Result.{on_ok_weaker}
use Rattle.nv_report.proofs.TextLemmas.{adds_row}
use Rattle.nv_report.proofs.rows.push_row.Goals as goal

pub returns : goal.returns
returns c = on_ok_weaker c.push_content.result (adds_row c.args.row.now _ _ _ c.in_ok-push_row_head.ensures) c.push_content.ensures
