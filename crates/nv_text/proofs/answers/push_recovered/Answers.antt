use Rattle.std.proofs.Common.{append_assoc}
use Rattle.nv_text.proofs.answers.push_recovered.Goals as goal

pub returns : goal.returns
returns c = simp append_assoc c.writeln.ensures.bytes
