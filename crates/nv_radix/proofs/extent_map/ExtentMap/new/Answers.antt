use Rattle.std.proofs.Common.{◌∙◌, refl}
use Rattle.nv_radix.proofs.Fronts.{runs_alone}
use Rattle.nv_radix.proofs.extent_map.ExtentMap.new.Goals as goal

pub returns : goal.returns
returns c = λ p. runs_alone c.new.result c.new-2.result (λ q low. rw c.new.ensures refl) p ∙ c.new-2.ensures p
