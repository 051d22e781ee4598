-- What recovering the metadata of a region finds.
use Rattle.std.specs.Prelude.{◌≡◌}
use Rattle.nv_rows.specs.RowList.{HasNumbersOf}
use Rattle.nv_region.specs.ImageState.{is_open_to}
use Rattle.nv_region.specs.Region.{Region}
use Rattle.nv_journal.specs.Undo.{undone}
use Rattle.nv_outcome.specs.Answer.{outcome_of}
use Rattle.nv_outcome.specs.Outcome.{IsOutcome}
use Rattle.nv_super.specs.declared.superblock.Super.{Super}
use Rattle.nv_text.specs.declared.refusals.Refusal.TheVariants as refusals
use Rattle.nv_metadata.specs.Memory.{MetadataState, IsReady}
use Rattle.nv_metadata.specs.declared.gathering.Gathered.{Gathered}
use Rattle.nv_metadata.specs.declared.gathering.Gathered.TheVariants as gatherings
use Rattle.nv_image_check.specs.Answering.{IsOpenInFront}
use Rattle.nv_image_check.specs.declared.gathered_image.GatheredImage.{GatheredImage}
use Rattle.nv_image_check.specs.declared.gathered_image.GatheredImage.TheVariants as images

-- the memory's superblock is accepted, and it takes stores where slots can stand
abbrev pub IsAccepted : MetadataState → Type 0
IsAccepted memory = (s : Super) × IsReady s memory

-- the outcome of this region was found, and its journals are rolled back in the memory, which takes stores as before
abbrev pub IsFoundBy : Region → GatheredImage → Type 0
IsFoundBy S (images.Recovered memory found) = IsOutcome S (outcome_of found) × (memory.memory.region ≡ undone found.sup S) × (found.free.sup ≡ found.sup)
    × HasNumbersOf found.tables.layout found.rows × (found.tables.layout.sup ≡ found.sup) × IsOpenInFront S (is_open_to memory.memory)
IsFoundBy S (images.Refused refusal) = ⊥

-- the same of the metadata that were gathered, or the fault for which the superblock was refused
abbrev pub IsFoundIn : Gathered → GatheredImage → Type 0
IsFoundIn (gatherings.Metadata s memory) image = IsFoundBy memory.memory.region image
IsFoundIn (gatherings.Refused fault) (images.Recovered memory found) = ⊥
IsFoundIn (gatherings.Refused fault) (images.Refused refusal) = refusal ≡ refusals.Super fault
