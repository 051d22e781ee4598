-- What checks and maps of images write that may be too long for a region, and why those of files fail.
use Rattle.std.specs.Prelude.{◌≡◌, ◌≢◌, ℕ, List, Option, Some, codes}
use Rattle.std.specs.Borrow.{Bor}
use Rattle.std.specs.Io.KnownBytes.{Appends}
use Rattle.nv_region.specs.Region.{region_of}
use Rattle.nv_super.specs.declared.superblock.SuperFault.TheVariants as faults
use Rattle.nv_text.specs.declared.refusals.Refusal.TheVariants as refusals
use Rattle.nv_stream.specs.declared.fault.ScriptError.{ScriptError}
use Rattle.nv_stream.specs.declared.fault.ScriptError.TheVariants.{Read, Write}
use Rattle.nv_stream.specs.declared.saving.Unsaved.TheVariants as unsaveds
use Rattle.nv_stream.specs.Streams.{AppendsFront}
use Rattle.nv_image_files.specs.declared.image.Image.{Image}
use Rattle.nv_image_files.specs.declared.image.Image.TheVariants as images
use Rattle.nv_image_files.specs.declared.failure.Failure.{Failure}
use Rattle.nv_image_files.specs.declared.failure.Failure.TheVariants.{CannotRead, CannotWrite, Answer}
use Rattle.nv_image_files.specs.declared.saving.Target.{Target}
use Rattle.nv_image_files.specs.Images.{IsSystem}
use Rattle.nv_text.specs.declared.output.Output.{Output}
use Rattle.nv_image_check.specs.declared.mapping.Mapped.{Mapped}
use Rattle.nv_image_check.specs.declared.mapping.Mapped.TheVariants as maps
use Rattle.nv_image_check.specs.Checking.{WritesCheckAs, EndsCheckAs, FailsCheckAs}
use Rattle.nv_image_check.specs.Mapping.{IsMapped}
use Rattle.nv_image_check.specs.Explained.{WritesExplained, FailsExplained}

-- the line that refuses an image for its length
abbrev pub length_refused : List ℕ
length_refused = codes "refused S1\n"

-- the text of a check of the image was written: that of its bytes, or the refusal of its length
abbrev pub WritesImageCheck : Output → Image → ℕ → Option (List ℕ) → Option (List ℕ) → Type 0
WritesImageCheck output (images.Bytes bytes) workers old new = WritesCheckAs output bytes.items workers old new
WritesImageCheck output (images.TooLong length) workers old new = Appends old new length_refused

-- the status is that of a check of the image, whose text was written
abbrev pub EndsImageCheck : Output → Image → ℕ → Option (List ℕ) → Option (List ℕ) → ℕ → Type 0
EndsImageCheck output (images.Bytes bytes) workers old new status = EndsCheckAs output bytes.items workers old new status
EndsImageCheck output (images.TooLong length) workers old new status = status ≡ 2

-- After an error: as of a check of the bytes. A front of the refusal was written where the writer failed.
abbrev pub FailsImageCheck : Output → Image → ℕ → ScriptError → Option (List ℕ) → Option (List ℕ) → Type 0
FailsImageCheck output (images.Bytes bytes) workers e old new = FailsCheckAs output bytes.items workers e old new
FailsImageCheck output (images.TooLong length) workers e old new = (e ≡ Write) × AppendsFront old new length_refused

-- the report of the image with its sentences was written, and the status is this: those of its bytes, or the refusal of its length
abbrev pub WritesImageExplained : Image → ℕ → Option (List ℕ) → Option (List ℕ) → ℕ → Type 0
WritesImageExplained (images.Bytes bytes) workers old new status = WritesExplained bytes.items workers old new status
WritesImageExplained (images.TooLong length) workers old new status = Appends old new length_refused × (status ≡ 2)

-- after an error: as of the bytes, or a front of the refusal where the writer failed
abbrev pub FailsImageExplained : Image → ℕ → ScriptError → Option (List ℕ) → Option (List ℕ) → Type 0
FailsImageExplained (images.Bytes bytes) workers e old new = FailsExplained bytes.items workers e old new
FailsImageExplained (images.TooLong length) workers e old new = (e ≡ Write) × AppendsFront old new length_refused

-- the map of the image: that of its bytes, or the refusal of its length
abbrev pub IsImageMapped : Image → ℕ → Mapped → Type 0
IsImageMapped (images.Bytes bytes) most mapped = IsMapped (region_of bytes.items) most mapped
IsImageMapped (images.TooLong length) most mapped = mapped ≡ maps.Refused (refusals.Super faults.Length)

-- why the image at a path was not checked: its file can't be read, or the answer failed, for which no stream is read
abbrev pub IsUnchecked : Bor (List ℕ) → Failure → Type 0
IsUnchecked path (CannotRead place reason) = (place ≡ path) × IsSystem reason
IsUnchecked path (Answer error) = error ≢ Read
IsUnchecked path _ = ⊥

-- why the image at a path was not mapped: the same, or the file that was to be drawn was not written
abbrev pub IsUnmapped : Bor (List ℕ) → Option Target → Failure → Type 0
IsUnmapped path svg (CannotRead place reason) = (place ≡ path) × IsSystem reason
IsUnmapped path svg (CannotWrite place unsaved) = (target : Target) × (svg ≡ Some target) × (place ≡ target.path) × (unsaved ≢ unsaveds.Memory)
IsUnmapped path svg (Answer error) = error ≢ Read
IsUnmapped path svg _ = ⊥
