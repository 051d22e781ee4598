-- What recovering a region over its bytes finds, by the answer of the recovery.
use Rattle.std.proofs.Common.{◌≡◌, ◌∙◌, [], Some, refl, subst}
use Rattle.nv_region.specs.Region.{Region}
use Rattle.nv_region.specs.ImageState.{ImageState}
use Rattle.nv_outcome.specs.declared.recovered.Recovered.{Recovered}
use Rattle.nv_image_check.specs.Answering.{MayAnswer, IsOfItsSuper, RefusesRecovery}
use Rattle.nv_image_check.specs.declared.recovery.Answer.{Answer}
use Rattle.nv_image_check.specs.declared.recovery.Answer.TheVariants as answers
use Rattle.nv_text.specs.declared.refusals.Refusal.{Refusal}
use Rattle.nv_text.specs.declared.refusals.Refusal.TheVariants as refusals
use Rattle.nv_image_check.specs.Recovering.{IsRecovered, IsSuperRefused}
use Rattle.nv_image_check.specs.declared.imaging.Image.{Image}
use Rattle.nv_image_check.specs.declared.imaging.Image.TheVariants as images

module _ (R S : Region) (answer : Answer) (may : MayAnswer R 1 [] answer S) where
  -- what was found
  pub found : (r : Recovered) (memory : ImageState) → answer ≡ answers.Recovered r → memory.region ≡ S → IsOfItsSuper (Some answer) → IsRecovered R (images.Recovered memory r)
  found r memory is region lists =
      let recovered : MayAnswer R 1 [] (answers.Recovered r) S = subst (λ (x : Answer). MayAnswer R 1 [] x S) is may in
      let of : IsOfItsSuper (Some (answers.Recovered r)) = subst (λ (x : Answer). IsOfItsSuper (Some x)) is lists in
      (recovered.2, region ∙ recovered.3, of.0, of.1, of.2)

  -- one worker without a schedule is refused for the superblock alone
  refused : (refusal : Refusal) → RefusesRecovery R 1 [] refusal → IsSuperRefused R refusal
  refused refusals.Workers h = absurd (cc)
  refused refusals.Schedule h = absurd (let never = h.1 in cc)
  refused (refusals.Super fault) h = (fault, h.2, refl)
  refused refusal h = absurd h

  pub not_found : (refusal : Refusal) → answer ≡ answers.Refused refusal → IsSuperRefused R refusal
  not_found refusal is = let told : MayAnswer R 1 [] (answers.Refused refusal) S = subst (λ (x : Answer). MayAnswer R 1 [] x S) is may in refused refusal told.0

-- the same of the image that it is
pub as_found : (R : Region) (image : Image) (memory : ImageState) (r : Recovered) → image ≡ images.Recovered memory r → IsRecovered R image → IsRecovered R (images.Recovered memory r)
as_found R image memory r is h = subst (λ (x : Image). IsRecovered R x) is h
