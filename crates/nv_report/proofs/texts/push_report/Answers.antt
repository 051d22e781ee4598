use Rattle.nv_report.specs.Shown.{shown_of}
use Rattle.std.proofs.lemmas.Result.{on_ok_weaker}
use Rattle.nv_report.proofs.TextLemmas.{adds_report}
use Rattle.nv_report.proofs.texts.push_report.Goals as goal

pub returns : goal.returns
returns c = on_ok_weaker c.push_faults.result (adds_report (shown_of c.args.shown.now) _ _ _ _ _ c.in_ok-push_region_line.ensures c.in_ok-push_rows.ensures c.in_ok-push_free.ensures) c.push_faults.ensures
