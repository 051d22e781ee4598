-- What was written of a transcript, where the bytes of the reader and of the writer are known.
-- A transcript relates lines, a text and an exit status: these lines may print this text and end with this status.
use Rattle.std.specs.Prelude.{ℕ, List, take, Option, IfSome}
use Rattle.std.specs.Io.KnownBytes.{Appends}
use Rattle.nv_stream.specs.Lines.{lines_of}
use Rattle.nv_stream.specs.declared.fault.ScriptError.{ScriptError}
use Rattle.nv_stream.specs.declared.fault.ScriptError.TheVariants.{Read, Write, Memory}
use Rattle.nv_stream.specs.Streams.{AppendsShort}

-- the output that was added is a transcript of the input
abbrev pub WritesAll : (List (List ℕ) → List ℕ → ℕ → Type 0) → Option (List ℕ) → Option (List ℕ) → Option (List ℕ) → ℕ → Type 0
WritesAll shows known old new status = IfSome known (λ input. (text : List ℕ) × Appends old new text × shows (lines_of input) text status)

-- a front of a transcript of the first lines of the input was added, and not all of it
abbrev pub WritesShort : (List (List ℕ) → List ℕ → ℕ → Type 0) → Option (List ℕ) → Option (List ℕ) → Option (List ℕ) → Type 0
WritesShort shows known old new = IfSome known (λ input. (count : ℕ) × (text : List ℕ) × (status : ℕ)
    × AppendsShort old new text × shows (take count (lines_of input)) text status)

-- a whole transcript of the first lines of the input was added
abbrev pub WritesWhole : (List (List ℕ) → List ℕ → ℕ → Type 0) → Option (List ℕ) → Option (List ℕ) → Option (List ℕ) → Type 0
WritesWhole shows known old new = IfSome known (λ input. (count : ℕ) × (text : List ℕ) × (status : ℕ)
    × Appends old new text × shows (take count (lines_of input)) text status)

-- After an error: the whole output of the first lines where the reader failed or memory was refused, and less than that where
-- the writer failed.
abbrev pub FailsScript : (List (List ℕ) → List ℕ → ℕ → Type 0) → ScriptError → Option (List ℕ) → Option (List ℕ) → Option (List ℕ) → Type 0
FailsScript shows Read known old new = WritesWhole shows known old new
FailsScript shows Write known old new = WritesShort shows known old new
FailsScript shows Memory known old new = WritesWhole shows known old new
