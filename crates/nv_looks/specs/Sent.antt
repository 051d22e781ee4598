-- What is written to an output and to errors beside it: a refusal goes to the errors, and all else to the output.
use Rattle.std.specs.Prelude.{◌≡◌, ◌≢◌, ◌⊎◌, ℕ, List, Option}
use Rattle.std.specs.Io.KnownBytes.{Appends, Keeps}
use Rattle.nv_stream.specs.Streams.{AppendsFront}

-- The bytes that the output and the errors hold, where they are known.
pub record Written : Type 0 where
  pub output : Option (List ℕ)
  pub errors : Option (List ℕ)

-- the same of its parts
abbrev pub written : Option (List ℕ) → Option (List ℕ) → Written
written output errors = record { output = output; errors = errors }

-- the text went to the output where the exit status is 0, and else to the errors; nothing went to the other
abbrev pub Sends : ℕ → Written → Written → List ℕ → Type 0
Sends status old new text = ((status ≡ 0) × Appends old.output new.output text × Keeps old.errors new.errors)
    ⊎ ((status ≢ 0) × Keeps old.output new.output × Appends old.errors new.errors text)

-- a front of the text went there
abbrev pub SendsFront : ℕ → Written → Written → List ℕ → Type 0
SendsFront status old new text = ((status ≡ 0) × AppendsFront old.output new.output text × Keeps old.errors new.errors)
    ⊎ ((status ≢ 0) × Keeps old.output new.output × AppendsFront old.errors new.errors text)

-- nothing was written
abbrev pub KeepsBoth : Written → Written → Type 0
KeepsBoth old new = Keeps old.output new.output × Keeps old.errors new.errors
