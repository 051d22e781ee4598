use Rattle.nv_entry.proofs.OneSpelling as one
use Rattle.nv_entry.proofs.laws.no_spelling_begins_another.Goals as goal

pub returns : goal.returns
returns c = one.no_spelling_begins_another
