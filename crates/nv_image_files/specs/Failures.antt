-- What the failures of a command stand for, and their texts.
use Rattle.std.specs.Prelude.{ℕ, List, ◌++◌, codes, Option, Some, None, option_map}
use Rattle.std.specs.IoError.{error_kind}
use Rattle.std.specs.declared.io.ErrorKind.{ErrorKind}
use Rattle.std.specs.declared.io.ErrorKind.TheVariants.{NotFound, IsADirectory, PermissionDenied}
use Rattle.nv_image_files.specs.Shown.{shown_text}
use Rattle.nv_image_files.specs.declared.reason.Reason.{Reason}
use Rattle.nv_image_files.specs.declared.reason.Reason.TheVariants.{PathNotUtf8, System}
use Rattle.nv_image_files.specs.declared.failure.Failure.{Failure}
use Rattle.nv_image_files.specs.declared.failure.Failure.TheVariants.{CannotRead, NothingToWrite, WordNotUtf8, BadEscape, NoClass}

-- the text for a kind of failure; no text is promised where the system's own is told
abbrev pub kind_text : ErrorKind → Option (List ℕ)
kind_text NotFound = Some (codes "no such file")
kind_text IsADirectory = Some (codes "it is a directory")
kind_text PermissionDenied = Some (codes "no permission to read it")
kind_text _ = None

-- the text for the reason why a file can't be read; no text is promised of a length
abbrev pub reason_text : Reason → Option (List ℕ)
reason_text PathNotUtf8 = Some (codes "its path isn't UTF-8")
reason_text (System error) = kind_text (error_kind error)
reason_text _ = None

-- the text for a failure; no text is promised of an answer's own error, of a file that can't be written, and of words with control characters
abbrev pub failure_text : Failure → Option (List ℕ)
failure_text (CannotRead path reason) = option_map (λ shown. codes "cannot read " ++ shown) (shown_text path.now)
failure_text (NothingToWrite path) = option_map (λ shown. codes "cannot write " ++ shown ++ codes ": there is no region") (shown_text path.now)
failure_text WordNotUtf8 = Some (codes "a word of the command line isn't UTF-8")
failure_text (BadEscape path) = option_map (λ shown. codes "in " ++ shown
    ++ codes " a backslash begins no escape; \\\\ stands for one, and \\x and two hexadecimal digits for a byte") (shown_text path.now)
failure_text (NoClass name) = option_map (λ shown. codes "no class of faults is named " ++ shown) (shown_text name.now)
failure_text _ = None
