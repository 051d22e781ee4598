use Rattle.nv_text.proofs.ListLines.{not_refused}
use Rattle.nv_text.proofs.refusal_lines.no_list_is_refused.Goals as goal

pub returns : goal.returns
returns c = not_refused
