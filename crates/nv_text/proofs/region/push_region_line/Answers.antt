use Rattle.std.proofs.Common.{append_assoc}
use Rattle.nv_text.proofs.region.push_region_line.Goals as goal

pub returns : goal.returns
returns c = simp append_assoc c.writeln.ensures.bytes
