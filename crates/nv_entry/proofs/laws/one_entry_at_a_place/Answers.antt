use Rattle.nv_entry.proofs.Same.{Stands-only}
use Rattle.nv_entry.proofs.laws.one_entry_at_a_place.Goals as goal

pub returns : goal.returns
returns c = Stands-only
