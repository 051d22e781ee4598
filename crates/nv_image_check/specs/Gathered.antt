-- What a check of an image that is read piece by piece leaves after an error, and why such an image is refused.
use Rattle.std.specs.Prelude.{◌≡◌, ℕ, List, Option, Some, None}
use Rattle.std.specs.Io.KnownBytes.{Keeps}
use Rattle.nv_region.specs.Region.{region_of}
use Rattle.nv_image_files.specs.Superblocks.{said_of, known_content}
use Rattle.nv_image_files.specs.declared.image.Unaccepted.{Unaccepted}
use Rattle.nv_metadata.specs.declared.errors.GatherError.{GatherError}
use Rattle.nv_metadata.specs.declared.errors.GatherError.TheVariants as gatherings
use Rattle.nv_metadata.specs.declared.gathering.Gathered.{Gathered}
use Rattle.nv_metadata.specs.declared.gathering.Gathered.TheVariants as gathered
use Rattle.nv_stream.specs.declared.fault.ScriptError.TheVariants as errors
use Rattle.nv_image_check.specs.declared.gathered.BlocksError.{BlocksError}
use Rattle.nv_image_check.specs.declared.gathered.BlocksError.TheVariants.{Read, Answer}
use Rattle.nv_text.specs.declared.output.Output.{Output}
use Rattle.nv_image_check.specs.Checking.{FailsCheckAs}

-- what an error of gathering is told as
abbrev pub ungathered : GatherError → BlocksError
ungathered (gatherings.Read error) = Read error
ungathered gatherings.Memory = Answer errors.Memory

-- After an error: what a check of the bytes leaves. A reader of bytes that are known doesn't fail.
abbrev pub FailsBlocksCheck : Output → List ℕ → ℕ → BlocksError → Option (List ℕ) → Option (List ℕ) → Type 0
FailsBlocksCheck output bytes workers (Read error) old new = ⊥
FailsBlocksCheck output bytes workers (Answer error) old new = FailsCheckAs output bytes workers error old new

-- nothing was written where the reader failed
abbrev pub KeepsUnread : BlocksError → Option (List ℕ) → Option (List ℕ) → Type 0
KeepsUnread (Read error) old new = Keeps old new
KeepsUnread (Answer error) old new = Unit {0}

-- what is told of why these bytes aren't accepted, of which this was gathered: by the fault of their superblock, and by what else
-- they are; nothing where they are accepted
abbrev pub TellsWhy : List ℕ → Gathered → Option Unaccepted → Type 0
TellsWhy image (gathered.Metadata sup memory) told = told ≡ None
TellsWhy image (gathered.Refused fault) None = ⊥
TellsWhy image (gathered.Refused fault) (Some why) = (why.words ≡ said_of (region_of image) fault) × (why.content ≡ known_content image)
