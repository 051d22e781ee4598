-- What recovering the region of some bytes finds.
use Rattle.std.specs.Prelude.{◌≡◌}
use Rattle.nv_rows.specs.RowList.{HasNumbersOf}
use Rattle.nv_region.specs.Region.{Region}
use Rattle.nv_super.specs.declared.superblock.SuperFault.{SuperFault}
use Rattle.nv_super.specs.Super.{IsRefused}
use Rattle.nv_journal.specs.Undo.{undone}
use Rattle.nv_outcome.specs.Answer.{outcome_of}
use Rattle.nv_outcome.specs.Outcome.{IsOutcome}
use Rattle.nv_text.specs.declared.refusals.Refusal.{Refusal}
use Rattle.nv_text.specs.declared.refusals.Refusal.TheVariants as refusals
use Rattle.nv_image_check.specs.declared.imaging.Image.{Image}
use Rattle.nv_image_check.specs.declared.imaging.Image.TheVariants as images

-- the superblock isn't accepted, also for the region's length, and its first fault is named
abbrev pub IsSuperRefused : Region → Refusal → Type 0
IsSuperRefused R refusal = (fault : SuperFault) × IsRefused R fault × (refusal ≡ refusals.Super fault)

-- the region with its journals rolled back, and its outcome; or why it has none
abbrev pub IsRecovered : Region → Image → Type 0
IsRecovered R (images.Recovered memory found) = IsOutcome R (outcome_of found) × (memory.region ≡ undone found.sup R) × (found.free.sup ≡ found.sup)
    × HasNumbersOf found.tables.layout found.rows × (found.tables.layout.sup ≡ found.sup)
IsRecovered R (images.Refused refusal) = IsSuperRefused R refusal
