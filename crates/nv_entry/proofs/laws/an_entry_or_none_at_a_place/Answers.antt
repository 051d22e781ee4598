use Rattle.nv_entry.proofs.Decided.{entry_or_none}
use Rattle.nv_entry.proofs.laws.an_entry_or_none_at_a_place.Goals as goal

pub returns : goal.returns
returns c = entry_or_none
