-- What a line of a script is: skipped, a command, or bad.
use Rattle.std.specs.Prelude.{◌≡◌, ℕ, ◌<◌, ◌≤◌, ◌⊎◌, List, [], ◌∷◌, length, ⊤}
use Rattle.nv_stream.specs.Lines.{line_limit}
use Rattle.nv_line.specs.Request.{Request}
use Rattle.nv_line.specs.Spelling.{Says}
use Rattle.nv_line.specs.View.{view}
use Rattle.nv_line.specs.declared.commands.Line.{Line}
use Rattle.nv_line.specs.declared.commands.Line.TheVariants.{Skipped, Command, Bad}

-- empty, or begun with '#'
abbrev pub IsSkipped : List ℕ → Type 0
IsSkipped [] = ⊤
IsSkipped (b ∷ bs) = b ≡ 35

-- too long, or neither skipped nor said by any request
abbrev pub IsBad : List ℕ → Type 0
IsBad line = (line_limit < length line) ⊎ ((IsSkipped line → ⊥) × ((request : Request) → Says line request → ⊥))

-- the line reads as this
abbrev pub ReadsAs : List ℕ → Line → Type 0
ReadsAs line Skipped = (length line ≤ line_limit) × IsSkipped line
ReadsAs line (Command command) = (length line ≤ line_limit) × Says line (view command)
ReadsAs line Bad = IsBad line
