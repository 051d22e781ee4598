-- What a check of several images writes of each.
use Rattle.std.specs.Prelude.{◌≡◌, ℕ, List, ◌++◌, codes, Option}
use Rattle.std.specs.List.{flat_map}
use Rattle.std.specs.Io.KnownBytes.{Appends, Keeps}
use Rattle.std.specs.Str.Lines.{lines}
use Rattle.nv_region.specs.Region.{region_of}
use Rattle.nv_stream.specs.declared.fault.ScriptError.{ScriptError}
use Rattle.nv_stream.specs.declared.fault.ScriptError.TheVariants.{Read, Write, Memory}
use Rattle.nv_stream.specs.Streams.{AppendsFront}
use Rattle.nv_image_files.specs.declared.image.Image.{Image}
use Rattle.nv_image_files.specs.declared.image.Image.TheVariants as images
use Rattle.nv_text.specs.declared.output.Output.{Output}
use Rattle.nv_image_check.specs.Checking.{IsCheckAs}
use Rattle.nv_image_check.specs.Files.{length_refused}

-- a line with the name before it
abbrev pub named_line : List ℕ → List ℕ → List ℕ
named_line name line = name ++ line ++ codes "\n"

-- the lines of a text, each with the name before it
abbrev pub named_lines : List ℕ → List ℕ → List ℕ
named_lines name text = flat_map (named_line name) (lines text)

-- the text and the status of a check of the image: those of its bytes, or the refusal of its length
abbrev pub IsImageCheck : Output → Image → ℕ → List ℕ → ℕ → Type 0
IsImageCheck output (images.Bytes bytes) workers text status = IsCheckAs output (region_of bytes.items) workers text status
IsImageCheck output (images.TooLong length) workers text status = (text ≡ length_refused) × (status ≡ 2)

-- the text of a check of the image was written with this name before each line, and the status is that of the check
abbrev pub WritesNamed : List ℕ → Output → Image → ℕ → Option (List ℕ) → Option (List ℕ) → ℕ → Type 0
WritesNamed name output image workers old new status = (text : List ℕ) × IsImageCheck output image workers text status × Appends old new (named_lines name text)

-- After an error: a front of these lines was written where the writer failed, and nothing where memory was refused.
abbrev pub FailsLines : List ℕ → ScriptError → Option (List ℕ) → Option (List ℕ) → Type 0
FailsLines lines Read old new = ⊥
FailsLines lines Write old new = AppendsFront old new lines
FailsLines lines Memory old new = Keeps old new

-- the same of the lines of a check of the image
abbrev pub FailsNamed : List ℕ → Output → Image → ℕ → ScriptError → Option (List ℕ) → Option (List ℕ) → Type 0
FailsNamed name output image workers Read old new = ⊥
FailsNamed name output image workers Write old new = (text : List ℕ) × (status : ℕ) × IsImageCheck output image workers text status × AppendsFront old new (named_lines name text)
FailsNamed name output image workers Memory old new = Keeps old new
