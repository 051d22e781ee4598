-- A region that was recovered on this thread can be mounted, and the mount shows it.
use Rattle.std.proofs.Common.{◌≡◌, ◌∙◌, false, [], Some, refl, ap}
use Rattle.nv_region.specs.Region.{Region}
use Rattle.nv_region.specs.ImageState.{ImageState}
use Rattle.nv_outcome.specs.Answer.{outcome_of}
use Rattle.nv_outcome.specs.declared.recovered.Recovered.{Recovered}
use Rattle.nv_image_check.specs.declared.recovery.Answer.TheVariants as answers
use Rattle.nv_calls.specs.Mount.{Mount}
use Rattle.nv_session.specs.Sessions.{CanMount}
use Rattle.nv_session.proofs.Moved.{can_mount}
use Rattle.nv_looks.specs.Looking.{IsOpened}
use Rattle.nv_image_check.specs.Recovering.{IsRecovered}
use Rattle.nv_image_check.specs.declared.imaging.Image.TheVariants as images
use Rattle.nv_looks.specs.declared.looking.Opened.TheVariants as opened

module _ (R : Region) (memory : ImageState) (r : Recovered) (is : IsRecovered R (images.Recovered memory r)) where
  -- what was found can be mounted
  pub opens : CanMount memory.region (Some (answers.Recovered r))
  opens = can_mount R memory.region 1 [] (Some (answers.Recovered r)) (refl, refl, is.0, is.1) (is.2, is.3, is.4)

  -- and the mount shows it
  pub mounted : (m : Mount ImageState) → m.memory ≡ memory → m.rows ≡ r.rows.items → m.faults ≡ r.faults.items → m.stopped ≡ false → IsOpened R (opened.Mounted m)
  mounted m here rows faults runs = (outcome_of r, is.0, ap (λ (x : ImageState). x.region) here ∙ is.1, rows, faults, runs)
