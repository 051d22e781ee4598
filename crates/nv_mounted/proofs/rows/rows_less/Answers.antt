use Rattle.nv_mounted.proofs.RowsKept as made
use Rattle.nv_mounted.proofs.rows.rows_less.Goals as goal

pub returns : goal.returns
returns c = made.rows_less
