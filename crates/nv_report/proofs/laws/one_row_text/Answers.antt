use Rattle.nv_report.proofs.OneText.{row_only}
use Rattle.nv_report.proofs.laws.one_row_text.Goals as goal

pub returns : goal.returns
returns c = row_only
