-- What a user reads behind the lines of a script's output, and behind which of them.
use Rattle.std.specs.Prelude.{◌≡◌, ◌⊎◌, ◌≤◌, ◌+◌, ℕ, List, [], ◌∷◌, ◌++◌, length, Option, Some, None, option_map, if◌then◌else◌, bytes_eq, codes, decimal}
use Rattle.nv_region.specs.Region.{size}
use Rattle.nv_super.specs.declared.superblock.SuperFault.TheVariants as SuperFault
use Rattle.nv_super.specs.FaultText.{super_fault_name}
use Rattle.nv_stream.specs.Lines.{line_limit}
use Rattle.nv_line.specs.Lines.{IsSkipped, IsBad}
use Rattle.nv_line.specs.Reasons.{reason_of, reason_text}
use Rattle.nv_text.specs.Answers.{refused_line}
use Rattle.nv_report.specs.Lengths.{length_text}
use Rattle.nv_report.specs.declared.lengths.BadLength.TheVariants.{Bytes}
use Rattle.nv_session.specs.Machine.{State, first_state}
use Rattle.nv_script.specs.Script.{Runs}
use Rattle.nv_script.specs.declared.hinting.Hint.{Hint}
use Rattle.nv_script.specs.declared.hinting.Hint.TheVariants.{BadLine, Length}

-- a line's number and why it is bad, or a length
abbrev pub hint_text : Hint → List ℕ
hint_text (BadLine number reason) = codes "line " ++ decimal number ++ codes ": " ++ reason_text reason
hint_text (Length length) = length_text length

-- the same as a line
abbrev pub hint_line : Hint → List ℕ
hint_line hint = hint_text hint ++ codes "\n"

-- the length of the region, where there is one
abbrev pub length_hint : Option ℕ → List ℕ
length_hint None = []
length_hint (Some bytes) = hint_line (Length (Bytes bytes))

-- behind `refused S1` the length of the region that there is, and behind another answer nothing
abbrev pub answer_hint : List ℕ → State → List ℕ
answer_hint said state = if bytes_eq said (refused_line (super_fault_name SuperFault.Length)) then length_hint (option_map size state.region) else []

-- The hints behind the lines from this number on, from a state on: none behind a skipped line, those behind a command's
-- answer, and behind a bad line, which is the last, why it is bad.
abbrev pub Hinted : ℕ → State → List (List ℕ) → List ℕ → Type 0
Hinted number old [] hints = hints ≡ []
Hinted number old (line ∷ lines) hints =
    ((length line ≤ line_limit) × IsSkipped line × Hinted (number + 1) old lines hints)
    ⊎ ((length line ≤ line_limit) × (said : List ℕ) × (rest : List ℕ) × (mid : State)
    × Runs line old said mid × Hinted (number + 1) mid lines rest × (hints ≡ answer_hint said mid ++ rest))
    ⊎ (IsBad line × (hints ≡ hint_line (BadLine number (reason_of line))))

-- the hints of a whole script, whatever its exit status
abbrev pub HintsScript : List (List ℕ) → List ℕ → ℕ → Type 0
HintsScript lines hints status = Hinted 1 first_state lines hints

-- the same of a script that begins in this state
abbrev pub HintsFrom : State → List (List ℕ) → List ℕ → ℕ → Type 0
HintsFrom old lines hints status = Hinted 1 old lines hints
