use Rattle.nv_logpage.proofs.Readable.{has_reading}
use Rattle.nv_logpage.proofs.RightLogs.{head_starts}
use Rattle.nv_logpage.proofs.laws.right_logs_have_a_reading.Goals as goal

pub returns : goal.returns
returns c = λ R s head tail right. has_reading R s head tail (head_starts s head tail right)
