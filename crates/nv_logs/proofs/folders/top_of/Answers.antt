use Rattle.std.proofs.Common.{◌∙◌}
use Rattle.std.proofs.lemmas.Result.{IfOk-weaker}
use Rattle.nv_logs.proofs.folders.top_of.Goals as goal

pub returns-in-Path : goal.returns-in-Path
returns-in-Path c = rw c.in-Path.is (IfOk-weaker c.from_slice.result _ _ (λ top same names is. same ∙ c.top_of_path.ensures names (rw c.deref.ensures.value is)) c.from_slice.ensures.items)
