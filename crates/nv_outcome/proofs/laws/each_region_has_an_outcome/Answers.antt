use Rattle.nv_outcome.proofs.Exists.{has_outcome}
use Rattle.nv_outcome.proofs.laws.each_region_has_an_outcome.Goals as goal

pub returns : goal.returns
returns c = record { some = has_outcome; none = λ R fault o refused is. is.sup.sound fault refused.applies }
