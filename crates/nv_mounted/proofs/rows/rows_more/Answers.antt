use Rattle.nv_mounted.proofs.RowsKept as made
use Rattle.nv_mounted.proofs.rows.rows_more.Goals as goal

pub returns : goal.returns
returns c = made.rows_more
