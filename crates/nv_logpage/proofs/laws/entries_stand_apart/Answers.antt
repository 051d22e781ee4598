use Rattle.nv_logpage.proofs.Places.{entries_apart}
use Rattle.nv_logpage.proofs.laws.entries_stand_apart.Goals as goal

pub returns : goal.returns
returns c = λ R s head tail es pages x starts r. entries_apart starts r
