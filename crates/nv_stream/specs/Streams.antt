-- What a call takes from a reader and adds to a writer, where their bytes are known.
use Rattle.std.specs.Prelude.{◌≡◌, ℕ, ◌<◌, ◌≤◌, List, [], ◌∷◌, length, take, Option, Some, None}
use Rattle.std.specs.Io.KnownBytes.{Appends, Consumes, IsAtEnd}
use Rattle.nv_stream.specs.Known.{IfKnown}
use Rattle.nv_stream.specs.Lines.{lines_of, line_limit}
use Rattle.nv_stream.specs.declared.reading.Next.{Next}
use Rattle.nv_stream.specs.declared.reading.Next.TheVariants.{Line, TooLong, End}

-- known bytes lose their first one, or there was none
abbrev pub GivesByte : Option (List ℕ) → Option (List ℕ) → Option ℕ → Type 0
GivesByte old new None = Consumes old new [] × IsAtEnd new
GivesByte old new (Some b) = Consumes old new (b ∷ [])

-- known bytes grow by a front of the text
abbrev pub AppendsFront : Option (List ℕ) → Option (List ℕ) → List ℕ → Type 0
AppendsFront old new text = (n : ℕ) × Appends old new (take n text)

-- known bytes grow by a front of the text that lacks a byte at least
abbrev pub AppendsShort : Option (List ℕ) → Option (List ℕ) → List ℕ → Type 0
AppendsShort old new text = (n : ℕ) × (n < length text) × Appends old new (take n text)

-- the input's first line is this one and leads to the other input, or it is too long, or there is none
abbrev pub TakesLine : List ℕ → List ℕ → Next → List ℕ → Type 0
TakesLine input rest Line line = (lines_of input ≡ line ∷ lines_of rest) × (length line ≤ line_limit)
TakesLine input rest TooLong line = (first : List ℕ) × (more : List (List ℕ)) × (lines_of input ≡ first ∷ more) × (line_limit < length first)
TakesLine input rest End line = input ≡ []

-- the same, where the input is known
abbrev pub TakesKnownLine : Option (List ℕ) → Option (List ℕ) → Next → List ℕ → Type 0
TakesKnownLine old new next line = IfKnown old new (λ input rest. TakesLine input rest next line)
