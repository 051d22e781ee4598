use Rattle.nv_rows.proofs.MoreNumbers.{next_unused}
use Rattle.nv_rows.proofs.laws.grown_tables_have_an_unused_number.Goals as goal

pub returns : goal.returns
returns c = next_unused
