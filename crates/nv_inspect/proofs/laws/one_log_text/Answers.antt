use Rattle.nv_inspect.proofs.OneText.{one_text}
use Rattle.nv_inspect.proofs.laws.one_log_text.Goals as goal

pub returns : goal.returns
returns c region l row text other a b = one_text region l row text other a b
