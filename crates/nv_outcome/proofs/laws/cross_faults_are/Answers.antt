use Rattle.nv_outcome.proofs.CrossLaw.{cross_there, cross_back}
use Rattle.nv_outcome.proofs.laws.cross_faults_are.Goals as goal

pub returns : goal.returns
returns c = λ R l rows f are. (cross_there are f, cross_back are f)
