use Rattle.std.proofs.Common.{Bool, MatchBool, ◌⊎◌, codes, subst, sym, ◌∙◌}
use Rattle.nv_image_check.specs.Checking.{IsSuperRefusal, IsOutput, IsRefusal}
use Rattle.nv_image_check.proofs.laws.any_workers.Goals as goal

pub returns : goal.returns
returns c output region workers others text status some others_too is =
    subst (λ (b : Bool). MatchBool b (IsSuperRefusal region text status ⊎ IsOutput output region text status) (IsRefusal (codes "Workers") text status)) (some ∙ sym others_too) is
