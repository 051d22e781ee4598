-- What writing a difference leaves in the output and in the errors.
use Rattle.std.specs.Prelude.{◌≡◌, ◌≢◌, ◌⊎◌, ℕ, List, Option}
use Rattle.std.specs.Io.KnownBytes.{Appends, Keeps}
use Rattle.nv_region.specs.Region.{region_of}
use Rattle.nv_stream.specs.Streams.{AppendsFront}
use Rattle.nv_stream.specs.declared.fault.ScriptError.{ScriptError}
use Rattle.nv_stream.specs.declared.fault.ScriptError.TheVariants.{Read, Write, Memory}
use Rattle.nv_comparing.specs.Comparing.{IsImagesDifference}
use Rattle.nv_comparing.specs.declared.comparing.Compared.{Compared}

-- the text went to the errors where the exit status is 2, and else to the output; nothing went to the other
abbrev pub Sends : List ℕ → ℕ → Option (List ℕ) → Option (List ℕ) → Option (List ℕ) → Option (List ℕ) → Type 0
Sends text status old new old_errors new_errors = ((status ≢ 2) × Appends old new text × Keeps old_errors new_errors)
    ⊎ ((status ≡ 2) × Keeps old new × Appends old_errors new_errors text)

-- a front of the text went there
abbrev pub SendsFront : List ℕ → ℕ → Option (List ℕ) → Option (List ℕ) → Option (List ℕ) → Option (List ℕ) → Type 0
SendsFront text status old new old_errors new_errors = ((status ≢ 2) × AppendsFront old new text × Keeps old_errors new_errors)
    ⊎ ((status ≡ 2) × Keeps old new × AppendsFront old_errors new_errors text)

-- what differs between two images was written
abbrev pub WritesDifference : List ℕ → List ℕ → Option (List ℕ) → Option (List ℕ) → Option (List ℕ) → Option (List ℕ) → Compared → Type 0
WritesDifference a b old new old_errors new_errors compared = (text : List ℕ) × IsImagesDifference (region_of a) (region_of b) text compared × Sends text compared.status old new old_errors new_errors

-- After an error: a front of the text where the writer failed, and nothing where memory was refused.
abbrev pub FailsDifference : List ℕ → List ℕ → Option (List ℕ) → Option (List ℕ) → Option (List ℕ) → Option (List ℕ) → ScriptError → Type 0
FailsDifference a b old new old_errors new_errors Read = ⊥
FailsDifference a b old new old_errors new_errors Write = (text : List ℕ) × (compared : Compared) × IsImagesDifference (region_of a) (region_of b) text compared
    × SendsFront text compared.status old new old_errors new_errors
FailsDifference a b old new old_errors new_errors Memory = Keeps old new × Keeps old_errors new_errors
