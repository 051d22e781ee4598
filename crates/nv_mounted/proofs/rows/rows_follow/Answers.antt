use Rattle.nv_mounted.proofs.RowsKept as made
use Rattle.nv_mounted.proofs.rows.rows_follow.Goals as goal

pub returns : goal.returns
returns c = λ l held i new rows k row kept inside at number is. made.rows_follow l held i new rows kept k inside row at number is
