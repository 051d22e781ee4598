-- What a look tells of rows, by what was recovered.
use Rattle.std.proofs.Common.{◌≡◌, ℕ, inl, inr, List, length, Result, Ok, Err, subst, string_bytes}
use Rattle.std.specs.Prelude.{IfOk}
use Rattle.nv_region.specs.Region.{Region, region_of}
use Rattle.nv_region.specs.ImageState.{ImageState}
use Rattle.nv_journal.specs.Undo.{undone}
use Rattle.nv_outcome.specs.Answer.{outcome_of}
use Rattle.nv_outcome.specs.declared.recovered.Recovered.{Recovered}
use Rattle.nv_outcome.proofs.SuperOf.{one_super}
use Rattle.nv_metadata.specs.Memory.{MetadataState}
use Rattle.nv_metadata.specs.Gathered.{AreGathered}
use Rattle.nv_metadata.specs.declared.gathering.Gathered.{Gathered}
use Rattle.nv_metadata.specs.declared.gathering.Gathered.TheVariants as gatherings
use Rattle.nv_metadata.proofs.Same.{gathered_super, whole_outcome}
use Rattle.nv_text.specs.Refusals.{refusal_name}
use Rattle.nv_text.specs.declared.refusals.Refusal as texts
use Rattle.nv_paths.specs.Seen.{tree_of}
use Rattle.nv_image_check.specs.Checking.{IsRefusal}
use Rattle.nv_image_check.specs.Recovering.{IsRecovered, IsSuperRefused}
use Rattle.nv_image_check.specs.GatheredImage.{IsFoundIn}
use Rattle.nv_image_check.specs.declared.answered.Answered.{Answered}
use Rattle.nv_image_check.specs.declared.imaging.Image.TheVariants as images
use Rattle.nv_image_check.specs.declared.gathered_image.GatheredImage.TheVariants as gathered_images
use Rattle.nv_image_check.proofs.Gathering.{found_refused}
use Rattle.nv_logs.specs.Rows.{IsRowLook, TellsRows}
use Rattle.nv_logs.specs.declared.looking.Look.{Look}

module _ (Tells : TellsRows) where
  -- the superblock isn't accepted
  pub refused_rows : (R : Region) (refusal : texts.Refusal) (text : List ℕ) (answered : Answered) → IsSuperRefused R refusal
      → IsRefusal (refusal_name refusal) text answered.status × (answered.faults ≡ 0) → IsRowLook Tells R text answered
  refused_rows R refusal text answered is said = inl ((is.0, is.1, subst (λ (x : texts.Refusal). IsRefusal (refusal_name x) text answered.status) is.2 said.0), said.1)

  -- a region over its bytes
  pub image_rows : {E : Type 0} (bytes : List ℕ) (memory : ImageState) (r : Recovered) → IsRecovered (region_of bytes) (images.Recovered memory r) → (result : Result Look E)
      → ((Q : Region) → IfOk result (λ look. Tells (tree_of Q r.rows.items) r.rows.items (string_bytes look.text) look.answered.status))
      → IfOk result (λ look. look.answered.faults ≡ length r.faults.items) → IfOk result (λ look. IsRowLook Tells (region_of bytes) (string_bytes look.text) look.answered)
  image_rows bytes memory r is (Ok look) told faults = inr (outcome_of r, is.0, told (undone r.sup (region_of bytes)), faults)
  image_rows bytes memory r is (Err e) told faults = tt

  -- what was gathered
  pub found_rows : {E : Type 0} (R : Region) (g : Gathered) → AreGathered R g → (m : MetadataState) (r : Recovered) → IsFoundIn g (gathered_images.Recovered m r) → (result : Result Look E)
      → ((Q : Region) → IfOk result (λ look. Tells (tree_of Q r.rows.items) r.rows.items (string_bytes look.text) look.answered.status))
      → IfOk result (λ look. look.answered.faults ≡ length r.faults.items) → IfOk result (λ look. IsRowLook Tells R (string_bytes look.text) look.answered)
  found_rows R (gatherings.Metadata s memory) are m r found (Ok look) told faults =
      let S = memory.memory.region in
      let sup : r.sup ≡ s = one_super S s r.sup (gathered_super s R S are.0 are.1) found.0.sup in
      inr (outcome_of r, whole_outcome s R S are.0 are.1 (outcome_of r) sup found.0, told (undone r.sup R), faults)
  found_rows R (gatherings.Metadata s memory) are m r found (Err e) told faults = tt
  found_rows R (gatherings.Refused fault) are m r found result told faults = absurd found

  pub unfound_rows : (R : Region) (g : Gathered) → AreGathered R g → (refusal : texts.Refusal) → IsFoundIn g (gathered_images.Refused refusal) → (text : List ℕ) (answered : Answered)
      → IsRefusal (refusal_name refusal) text answered.status × (answered.faults ≡ 0) → IsRowLook Tells R text answered
  unfound_rows R g are refusal found text answered said = refused_rows R refusal text answered (found_refused R g are refusal found) said
