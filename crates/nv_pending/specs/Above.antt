-- What a check writes that tells above its report what the journals would roll back.
use Rattle.std.specs.Prelude.{◌≡◌, ℕ, List, [], Option, codes}
use Rattle.std.specs.Io.KnownBytes.{Appends}
use Rattle.nv_region.specs.Region.{Region, region_of}
use Rattle.nv_image_check.specs.Checking.{EndsCheck}
use Rattle.nv_image_files.specs.declared.image.Image.{Image}
use Rattle.nv_image_files.specs.declared.image.Image.TheVariants as images
use Rattle.nv_records.specs.Rolling.{TellsJournals}
use Rattle.nv_records.specs.Text.{records_text}
use Rattle.nv_records.specs.declared.rolling.Journals.{Journals}
use Rattle.nv_records.specs.declared.rolling.Journals.TheVariants.{Pending, Refused}

-- the pending records, and how many they are; nothing where the superblock isn't accepted
abbrev pub journals_text : Journals → List ℕ
journals_text (Pending sup records) = records_text records.items
journals_text (Refused fault) = []

-- this is the text of the journals of a region
abbrev pub IsJournalsText : Region → List ℕ → Type 0
IsJournalsText R text = (journals : Journals) × TellsJournals R journals × (text ≡ journals_text journals)

-- the text of the journals of these bytes was written, and behind it that of their check, with its status
abbrev pub WritesAbove : List ℕ → ℕ → Option (List ℕ) → Option (List ℕ) → ℕ → Type 0
WritesAbove bytes workers old new status = (text : List ℕ) × (between : Option (List ℕ)) × IsJournalsText (region_of bytes) text × Appends old between text × EndsCheck bytes workers between new status

-- the same of an image; of one that is too long its refusal
abbrev pub WritesImageAbove : Image → ℕ → Option (List ℕ) → Option (List ℕ) → ℕ → Type 0
WritesImageAbove (images.Bytes bytes) workers old new status = WritesAbove bytes.items workers old new status
WritesImageAbove (images.TooLong length) workers old new status = Appends old new (codes "refused S1\n") × (status ≡ 2)
