use Rattle.std.proofs.Common.{arith}
use Rattle.nv_format.proofs.laws.the_root_has_an_attributes_entry.Goals as goal

pub returns : goal.returns
returns c region at time = (
  λ root. record { first = root.attributes; size = root.empty; time = root.made; owners = root.owner; owner = omega arith },
  λ stands. record { attributes = stands.first; empty = stands.size; made = stands.time; owner = stands.owners },
)
