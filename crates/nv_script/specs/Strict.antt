-- What a script may print that ends at the first bad line, or at the first refused command too.
use Rattle.std.specs.Prelude.{◌≡◌, ◌⊎◌, ◌≤◌, ◌+◌, ℕ, List, [], ◌∷◌, ◌++◌, length, Option, Some, None}
use Rattle.nv_region.specs.Region.{Region}
use Rattle.nv_stream.specs.Lines.{line_limit}
use Rattle.nv_line.specs.Lines.{IsSkipped, IsBad}
use Rattle.nv_line.specs.Reasons.{reason_of}
use Rattle.nv_text.specs.Answers.{bad_line}
use Rattle.nv_text.specs.RefusalLines.{IsRefusalLine}
use Rattle.nv_report.specs.Last.{status_of}
use Rattle.nv_session.specs.Machine.{State, first_state, state_with}
use Rattle.nv_script.specs.Script.{Runs}
use Rattle.nv_script.specs.Hints.{answer_hint, hint_line}
use Rattle.nv_script.specs.declared.hinting.Hint.TheVariants.{BadLine}
use Rattle.nv_script.specs.declared.script.Rule.{Rule}
use Rattle.nv_script.specs.declared.script.Rule.TheVariants.{Lenient, Strict}

-- before the first line, where a region may be there from the start
abbrev pub state_from : Option Region → State
state_from None = first_state
state_from (Some R) = state_with R

-- the answer ends the script: by the strict rule that of a refused command, by the lenient one none
abbrev pub IsLast : Rule → List ℕ → Type 0
IsLast Lenient said = ⊥
IsLast Strict said = IsRefusalLine said

-- The lines from this number on may print this text, end with this status, and in this state: a skipped line prints nothing,
-- a command what it may print, and the last line is a bad one, or a command whose answer ends the script. Both end it with
-- status 2.
abbrev pub ShowsBy : Rule → ℕ → State → List (List ℕ) → List ℕ → ℕ → State → Type 0
ShowsBy rule number old [] text status end = (text ≡ []) × (status ≡ status_of old.last) × (end ≡ old)
ShowsBy rule number old (line ∷ lines) text status end =
    ((length line ≤ line_limit) × IsSkipped line × ShowsBy rule (number + 1) old lines text status end)
    ⊎ ((length line ≤ line_limit) × (first : List ℕ) × (rest : List ℕ) × (mid : State)
    × Runs line old first mid × (IsLast rule first → ⊥) × ShowsBy rule (number + 1) mid lines rest status end × (text ≡ first ++ rest))
    ⊎ (IsBad line × (text ≡ bad_line number) × (status ≡ 2) × (end ≡ old))
    ⊎ ((length line ≤ line_limit) × Runs line old text end × IsLast rule text × (status ≡ 2))

-- the same of lines that end with this region
abbrev pub ShowsByFrom : Rule → ℕ → State → Option Region → List (List ℕ) → List ℕ → ℕ → Type 0
ShowsByFrom rule number old region lines text status = (end : State) × ShowsBy rule number old lines text status end × (end.region ≡ region)

-- what a script may print that ends with this region, and its exit status
abbrev pub ShowsEndBy : Rule → State → Option Region → List (List ℕ) → List ℕ → ℕ → Type 0
ShowsEndBy rule old region lines text status = ShowsByFrom rule 1 old region lines text status

-- the same, whatever region there is at its end
abbrev pub ShowsFromBy : Rule → State → List (List ℕ) → List ℕ → ℕ → Type 0
ShowsFromBy rule old lines text status = (end : State) × ShowsBy rule 1 old lines text status end

-- the hints behind these lines
abbrev pub HintedBy : Rule → ℕ → State → List (List ℕ) → List ℕ → Type 0
HintedBy rule number old [] hints = hints ≡ []
HintedBy rule number old (line ∷ lines) hints =
    ((length line ≤ line_limit) × IsSkipped line × HintedBy rule (number + 1) old lines hints)
    ⊎ ((length line ≤ line_limit) × (said : List ℕ) × (rest : List ℕ) × (mid : State)
    × Runs line old said mid × (IsLast rule said → ⊥) × HintedBy rule (number + 1) mid lines rest × (hints ≡ answer_hint said mid ++ rest))
    ⊎ (IsBad line × (hints ≡ hint_line (BadLine number (reason_of line))))
    ⊎ ((length line ≤ line_limit) × (said : List ℕ) × (mid : State) × Runs line old said mid × IsLast rule said × (hints ≡ answer_hint said mid))

-- the hints of a whole script, whatever its exit status
abbrev pub HintsFromBy : Rule → State → List (List ℕ) → List ℕ → ℕ → Type 0
HintsFromBy rule old lines hints status = HintedBy rule 1 old lines hints

-- ---- a strict script

-- what it may print that ends with this region, and its exit status
abbrev pub ShowsStrictEnd : State → Option Region → List (List ℕ) → List ℕ → ℕ → Type 0
ShowsStrictEnd = ShowsEndBy Strict

-- the same, whatever region there is at its end
abbrev pub ShowsStrictFrom : State → List (List ℕ) → List ℕ → ℕ → Type 0
ShowsStrictFrom = ShowsFromBy Strict

-- its hints
abbrev pub HintsStrictFrom : State → List (List ℕ) → List ℕ → ℕ → Type 0
HintsStrictFrom = HintsFromBy Strict
