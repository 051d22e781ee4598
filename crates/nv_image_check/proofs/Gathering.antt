-- What recovering the metadata of a region finds, by the answer of the recovery; and that it is found of the region.
use Rattle.std.proofs.Common.{◌≡◌, ◌∙◌, [], Some, subst}
use Rattle.nv_region.specs.ImageState.{is_open_to}
use Rattle.nv_region.specs.Region.{Region}
use Rattle.nv_super.specs.declared.superblock.Super.{Super}
use Rattle.nv_super.specs.Layout.{IsLayout}
use Rattle.nv_super.specs.Super.{IsSuper}
use Rattle.nv_outcome.specs.Answer.{outcome_of}
use Rattle.nv_outcome.specs.Outcome.{IsOutcome}
use Rattle.nv_outcome.specs.declared.recovered.Recovered.{Recovered}
use Rattle.nv_outcome.proofs.SuperOf.{layout_of_super, one_super}
use Rattle.nv_metadata.specs.Memory.{MetadataState}
use Rattle.nv_metadata.specs.Gathered.{AreGathered}
use Rattle.nv_metadata.specs.declared.gathering.Gathered.{Gathered}
use Rattle.nv_metadata.specs.declared.gathering.Gathered.TheVariants as gatherings
use Rattle.nv_metadata.proofs.Same.{gathered_super, whole_outcome}
use Rattle.nv_text.specs.declared.refusals.Refusal.{Refusal}
use Rattle.nv_image_check.specs.Answering.{IsOpenInFront, MayAnswer, IsOfItsSuper}
use Rattle.nv_image_check.specs.declared.recovery.Answer.{Answer}
use Rattle.nv_image_check.specs.declared.recovery.Answer.TheVariants as answers
use Rattle.nv_image_check.specs.Recovering.{IsSuperRefused}
use Rattle.nv_image_check.specs.GatheredImage.{IsFoundBy, IsFoundIn}
use Rattle.nv_image_check.specs.declared.gathered_image.GatheredImage.TheVariants as images
use Rattle.nv_image_check.proofs.Found.{not_found}

module _ (S T : Region) (answer : Answer) (may : MayAnswer S 1 [] answer T) where
  -- what was found
  pub found_by : (r : Recovered) (m : MetadataState) → answer ≡ answers.Recovered r → m.memory.region ≡ T → IsOfItsSuper (Some answer) → IsOpenInFront S (is_open_to m.memory) → IsFoundBy S (images.Recovered m r)
  found_by r m is region lists takes =
      let recovered : MayAnswer S 1 [] (answers.Recovered r) T = subst (λ (x : Answer). MayAnswer S 1 [] x T) is may in
      let of : IsOfItsSuper (Some (answers.Recovered r)) = subst (λ (x : Answer). IsOfItsSuper (Some x)) is lists in
      (recovered.2, region ∙ recovered.3, of.0, of.1, of.2, takes)

  -- a superblock that is accepted isn't refused
  pub not_refused : (s : Super) → IsSuper S s → (refusal : Refusal) → answer ≡ answers.Refused refusal → ⊥
  not_refused s accepted refusal is = let refused = not_found S T answer may refusal is in accepted.sound refused.0 refused.1.applies

-- the superblock of what was found is one of a region
pub found_layout : (g : Gathered) (m : MetadataState) (r : Recovered) → IsFoundIn g (images.Recovered m r) → IsLayout r.sup
found_layout (gatherings.Metadata s memory) m r found = layout_of_super memory.memory.region r.sup found.0.sup
found_layout (gatherings.Refused fault) m r found = absurd found

module _ (R : Region) where
  -- what was found of the metadata of a region is its outcome
  pub found_outcome : (g : Gathered) → AreGathered R g → (m : MetadataState) (r : Recovered) → IsFoundIn g (images.Recovered m r) → IsOutcome R (outcome_of r)
  found_outcome (gatherings.Metadata s memory) are m r found =
      let S = memory.memory.region in
      whole_outcome s R S are.0 are.1 (outcome_of r) (one_super S s r.sup (gathered_super s R S are.0 are.1) found.0.sup) found.0
  found_outcome (gatherings.Refused fault) are m r found = absurd found

  -- or its superblock is refused
  pub found_refused : (g : Gathered) → AreGathered R g → (refusal : Refusal) → IsFoundIn g (images.Refused refusal) → IsSuperRefused R refusal
  found_refused (gatherings.Metadata s memory) are refusal found = absurd found
  found_refused (gatherings.Refused fault) are refusal found = (fault, are, found)
