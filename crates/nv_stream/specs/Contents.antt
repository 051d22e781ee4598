-- What is read of a file that may be too long, and why nothing is.
use Rattle.std.specs.Prelude.{◌≡◌, ◌≤◌, ◌<◌, ℕ, Bool, true, false, if◌then◌else◌, List, length, Option, Some, None, ⊤, bytes_eq, codes}
use Rattle.std.specs.Io.KnownBytes.{Appends}
use Rattle.std.specs.IoError.{error_kind}
use Rattle.std.specs.declared.io.Error.{Error}
use Rattle.std.specs.declared.io.ErrorKind.{ErrorKind}
use Rattle.std.specs.declared.io.ErrorKind.TheVariants.{OutOfMemory}
use Rattle.nv_stream.specs.declared.contents.Contents.{Contents}
use Rattle.nv_stream.specs.declared.contents.Contents.TheVariants.{Whole, Longer}
use Rattle.nv_stream.specs.declared.contents.Unread.{Unread}
use Rattle.nv_stream.specs.declared.contents.Unread.TheVariants.{Unreadable, Memory}

-- the path by which the system opens a file: `-` stands for standard input
abbrev pub system_path : List ℕ → List ℕ
system_path path = if bytes_eq path (codes "-") then codes "/dev/stdin" else path

-- these bytes were read whole, or there are more of them than the limit
abbrev pub AreRead : ℕ → List ℕ → Contents → Type 0
AreRead limit bytes (Whole read) = (read.items ≡ bytes) × (length bytes ≤ limit)
AreRead limit bytes (Longer told) = limit < length bytes

-- these bytes were copied whole, or there are more of them than the limit
abbrev pub AreCopied : ℕ → List ℕ → Bool → Option (List ℕ) → Option (List ℕ) → Type 0
AreCopied limit bytes true old new = Appends old new bytes × (length bytes ≤ limit)
AreCopied limit bytes false old new = limit < length bytes

-- if all bytes were copied, they are no more than the limit, whether they are known or not
abbrev pub CopiesWithin : ℕ → Bool → Option (List ℕ) → Option (List ℕ) → Type 0
CopiesWithin limit true old new = (bytes : List ℕ) × Appends old new bytes × (length bytes ≤ limit)
CopiesWithin limit false old new = ⊤

-- no more bytes than the limit are held, and a length that a file tells is above it
abbrev pub KeepsLimit : ℕ → Contents → Type 0
KeepsLimit limit (Whole read) = length read.items ≤ limit
KeepsLimit limit (Longer None) = ⊤
KeepsLimit limit (Longer (Some told)) = limit < told

-- a failure of this kind as what it says of a file
abbrev pub unread_by : ErrorKind → Error → Unread
unread_by OutOfMemory error = Memory
unread_by _ error = Unreadable error

-- a failure as what it says of a file
abbrev pub unread_of : Error → Unread
unread_of error = unread_by (error_kind error) error
