use Rattle.nv_history.proofs.Recoveries.{undoes_same}
use Rattle.nv_history.proofs.laws.stopped_recoveries_undo_the_same.Goals as goal

pub returns : goal.returns
returns c = λ left next s stops is. undoes_same stops s is
