use Rattle.std.proofs.Common.{◌∙◌, refl, ap, subst}
use Rattle.std.specs.Prelude.{Err}
use Rattle.nv_region.specs.Region.{Region}
use Rattle.nv_super.specs.declared.superblock.SuperFault.TheVariants.{Length}
use Rattle.nv_image_check.specs.Recovering.{IsRecovered, IsSuperRefused}
use Rattle.nv_image_check.specs.declared.imaging.Image.TheVariants as images
use Rattle.nv_image_check.proofs.Checked.{too_long}
use Rattle.nv_image_check.proofs.Found.{found, not_found}
use Rattle.nv_image_check.proofs.imaging.recover_image.Goals as goal

pub returns-in-Recovered : goal.returns-in-Recovered
returns-in-Recovered c = subst (λ (R : Region). IsRecovered R (images.Recovered c.recover_alone.new.memory c.in-Recovered.recovered)) (c.open_system.ensures.same ∙ c.in-Ok.ensures.region)
    (found c.open_system.new.image.region c.recover_alone.new.memory.region c.in_ok-answer-in-Ok.answer c.in_ok-answer-in-Ok.ensures.ok c.in-Recovered.recovered c.recover_alone.new.memory c.in-Recovered.is refl c.in_ok-answer-in-Ok.ensures.lists)

pub returns-in-Ok : goal.returns-in-Ok
returns-in-Ok c = subst (λ (R : Region). IsSuperRefused R c.in-Refused.refusal) (c.open_system.ensures.same ∙ c.in-Ok.ensures.region)
    (not_found c.open_system.new.image.region c.recover_alone.new.memory.region c.in_ok-answer-in-Ok.answer c.in_ok-answer-in-Ok.ensures.ok c.in-Refused.refusal c.in-Refused.is)

pub returns-in-Err-Length : goal.returns-in-Err-Length
returns-in-Err-Length c = (Length, too_long c.args.bytes.now (c.from_bytes.ensures.length.0 (c.in-Err-Length.is ∙ ap Err c.in-Err-Length.field-0-is)), refl)
