use Rattle.nv_report.proofs.OneText.{report_only}
use Rattle.nv_report.proofs.laws.one_report.Goals as goal

pub returns : goal.returns
returns c = report_only
