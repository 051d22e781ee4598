-- What writing the log of an inode leaves in the output and in the errors.
use Rattle.std.specs.Prelude.{◌≡◌, ◌≢◌, ◌⊎◌, ℕ, List, Option}
use Rattle.std.specs.Io.KnownBytes.{Appends, Keeps}
use Rattle.nv_region.specs.Region.{Region}
use Rattle.nv_stream.specs.Streams.{AppendsFront}
use Rattle.nv_stream.specs.declared.fault.ScriptError.{ScriptError}
use Rattle.nv_stream.specs.declared.fault.ScriptError.TheVariants.{Read, Write, Memory}
use Rattle.nv_image_check.specs.declared.answered.Answered.{Answered}
use Rattle.nv_logs.specs.declared.inode.Inode.{Inode}
use Rattle.nv_logs.specs.Looking.{IsLogLook}

-- the text went to the output where the exit status is 0, and else to the errors; nothing went to the other
abbrev pub Sends : List ℕ → ℕ → Option (List ℕ) → Option (List ℕ) → Option (List ℕ) → Option (List ℕ) → Type 0
Sends text status old new old_errors new_errors = ((status ≡ 0) × Appends old new text × Keeps old_errors new_errors)
    ⊎ ((status ≢ 0) × Keeps old new × Appends old_errors new_errors text)

-- a front of the text went there
abbrev pub SendsFront : List ℕ → ℕ → Option (List ℕ) → Option (List ℕ) → Option (List ℕ) → Option (List ℕ) → Type 0
SendsFront text status old new old_errors new_errors = ((status ≡ 0) × AppendsFront old new text × Keeps old_errors new_errors)
    ⊎ ((status ≢ 0) × Keeps old new × AppendsFront old_errors new_errors text)

-- the text of a look at the log was written
abbrev pub WritesLog : Inode → Region → Option (List ℕ) → Option (List ℕ) → Option (List ℕ) → Option (List ℕ) → Answered → Type 0
WritesLog inode R old new old_errors new_errors answered = (text : List ℕ) × IsLogLook inode R text answered × Sends text answered.status old new old_errors new_errors

-- After an error: a front of the text where the writer failed, and nothing where memory was refused.
abbrev pub FailsLog : Inode → Region → Option (List ℕ) → Option (List ℕ) → Option (List ℕ) → Option (List ℕ) → ScriptError → Type 0
FailsLog inode R old new old_errors new_errors Read = ⊥
FailsLog inode R old new old_errors new_errors Write = (text : List ℕ) × (answered : Answered) × IsLogLook inode R text answered × SendsFront text answered.status old new old_errors new_errors
FailsLog inode R old new old_errors new_errors Memory = Keeps old new × Keeps old_errors new_errors

-- ---- the same of any look

-- the text of a look of this kind was written
abbrev pub WritesTold : (List ℕ → Answered → Type 0) → Option (List ℕ) → Option (List ℕ) → Option (List ℕ) → Option (List ℕ) → Answered → Type 0
WritesTold IsTold old new old_errors new_errors answered = (text : List ℕ) × IsTold text answered × Sends text answered.status old new old_errors new_errors

-- After an error: a front of the text where the writer failed, and nothing where memory was refused.
abbrev pub FailsTold : (List ℕ → Answered → Type 0) → Option (List ℕ) → Option (List ℕ) → Option (List ℕ) → Option (List ℕ) → ScriptError → Type 0
FailsTold IsTold old new old_errors new_errors Read = ⊥
FailsTold IsTold old new old_errors new_errors Write = (text : List ℕ) × (answered : Answered) × IsTold text answered × SendsFront text answered.status old new old_errors new_errors
FailsTold IsTold old new old_errors new_errors Memory = Keeps old new × Keeps old_errors new_errors
