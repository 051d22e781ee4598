-- What is held of an image, for which length one is refused, and why one can't be read or written.
use Rattle.std.specs.Prelude.{◌≡◌, ◌≢◌, ℕ, ◌<◌, ◌≤◌, ◌/◌, ◌%◌, List, length, Option, Some, None, false, ⊤}
use Rattle.std.specs.Borrow.{Bor}
use Rattle.nv_report.specs.declared.lengths.TheConstants.{LONGEST_REGION}
use Rattle.nv_report.specs.declared.lengths.BadLength.{BadLength}
use Rattle.nv_report.specs.declared.lengths.BadLength.TheVariants as lengths
use Rattle.nv_stream.specs.declared.fault.ScriptError.TheVariants as errors
use Rattle.nv_stream.specs.declared.saving.Unsaved.TheVariants as unsaveds
use Rattle.nv_region.specs.Region.{region_of, size}
use Rattle.nv_region.specs.Stops.{NothingPending}
use Rattle.nv_region.specs.RegionState.{fenced_or_last}
use Rattle.nv_region.specs.declared.memory.Fuse.TheVariants as fuses
use Rattle.nv_image_files.specs.declared.image.Loaded.{Loaded}
use Rattle.nv_image_files.specs.declared.image.Loaded.TheVariants as loads
use Rattle.nv_image_files.specs.declared.image.Image.{Image}
use Rattle.nv_image_files.specs.declared.image.Image.TheVariants as images
use Rattle.nv_image_files.specs.declared.reason.Reason.{Reason}
use Rattle.nv_image_files.specs.declared.reason.Reason.TheVariants.{System}
use Rattle.nv_image_files.specs.declared.failure.Failure.{Failure}
use Rattle.nv_image_files.specs.declared.failure.Failure.TheVariants.{CannotRead, CannotWrite, Answer}

-- a region can have so many bytes
abbrev pub IsRegionLength : ℕ → Type 0
IsRegionLength bytes = (bytes % 4096 ≡ 0) × (8 ≤ bytes / 4096) × (bytes ≤ LONGEST_REGION)

-- more than the longest region has
abbrev pub IsTooLong : BadLength → Type 0
IsTooLong (lengths.Bytes bytes) = LONGEST_REGION < bytes
IsTooLong (lengths.MoreThan bytes) = bytes ≡ LONGEST_REGION

-- no more bytes are held than the longest region has, and of more only the length
abbrev pub KeepsLongest : Image → Type 0
KeepsLongest (images.Bytes bytes) = length bytes.items ≤ LONGEST_REGION
KeepsLongest (images.TooLong length) = IsTooLong length

-- its region has these bytes, if it was read
abbrev pub HoldsBytes : List ℕ → Loaded → Type 0
HoldsBytes bytes (loads.Region m) = m.region ≡ region_of bytes
HoldsBytes bytes (loads.TooLong length) = ⊤

-- its region has nothing pending, and no fuse, if it was read
abbrev pub StartsSettled : Loaded → Type 0
StartsSettled (loads.Region m) = NothingPending m.region (fenced_or_last m) × (m.fuse ≡ fuses.Off) × (m.burnt ≡ false)
StartsSettled (loads.TooLong length) = ⊤

-- no more bytes are held than the longest region has, and of more only the length
abbrev pub KeepsLongestRegion : Loaded → Type 0
KeepsLongestRegion (loads.Region m) = size m.region ≤ LONGEST_REGION
KeepsLongestRegion (loads.TooLong length) = IsTooLong length

-- what is told of the length of a file that is too long
abbrev pub length_of : Option ℕ → BadLength
length_of None = lengths.MoreThan LONGEST_REGION
length_of (Some bytes) = lengths.Bytes bytes

-- the system gave the reason
abbrev pub IsSystem : Reason → Type 0
IsSystem (System error) = Unit {0}
IsSystem _ = ⊥

-- why the file at a path was not read: the system's error, or want of memory
abbrev pub IsUnread : Bor (List ℕ) → Failure → Type 0
IsUnread path (CannotRead place reason) = (place ≡ path) × IsSystem reason
IsUnread path (Answer error) = error ≡ errors.Memory
IsUnread path _ = ⊥

-- why the file at a path was not written: a reason other than want of memory, or that
abbrev pub IsUnsaved : Bor (List ℕ) → Failure → Type 0
IsUnsaved path (CannotWrite place unsaved) = (place ≡ path) × (unsaved ≢ unsaveds.Memory)
IsUnsaved path (Answer error) = error ≡ errors.Memory
IsUnsaved path _ = ⊥

-- why bytes were not written to standard output: no stream is read for that
abbrev pub IsUnanswered : Failure → Type 0
IsUnanswered (Answer error) = error ≢ errors.Read
IsUnanswered _ = ⊥
