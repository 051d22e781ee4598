-- What a script may print, and the exit status with which it may end.
use Rattle.std.specs.Prelude.{◌≡◌, ◌⊎◌, ◌≤◌, ◌+◌, true, false, ⊤, ℕ, List, [], ◌∷◌, ◌++◌, length, Option}
use Rattle.nv_region.specs.Region.{Region}
use Rattle.std.specs.List.{AllByRecursion}
use Rattle.nv_region.specs.declared.memory.Fuse.{Fuse}
use Rattle.nv_region.specs.declared.memory.Keep.{Keep}
use Rattle.nv_stream.specs.Lines.{line_limit}
use Rattle.nv_line.specs.Request.{Request, Stop}
use Rattle.nv_line.specs.Spelling.{Says}
use Rattle.nv_line.specs.Lines.{IsSkipped, IsBad}
use Rattle.nv_text.specs.Answers.{bad_line}
use Rattle.nv_report.specs.Last.{status_of}
use Rattle.nv_session.specs.Alike.{handles_words}
use Rattle.nv_session.specs.Machine.{State, first_state, Step, writes}
use Rattle.nv_session.specs.Sessions.{StandsFor}
use Rattle.nv_session.specs.declared.session.Session.{Session}

-- what a line asks for was run
abbrev pub Runs : List ℕ → State → List ℕ → State → Type 0
Runs line old text new = (request : Request) × Says line request × Step old request text new

-- The lines from this number on may print this text and end with this status, from a state on: a skipped line prints
-- nothing, a command what it may print, and a bad line is the last.
abbrev pub Shows : ℕ → State → List (List ℕ) → List ℕ → ℕ → Type 0
Shows number old [] text status = (text ≡ []) × (status ≡ status_of old.last)
Shows number old (line ∷ lines) text status =
    ((length line ≤ line_limit) × IsSkipped line × Shows (number + 1) old lines text status)
    ⊎ ((length line ≤ line_limit) × (first : List ℕ) × (rest : List ℕ) × (mid : State)
    × Runs line old first mid × Shows (number + 1) mid lines rest status × (text ≡ first ++ rest))
    ⊎ (IsBad line × (text ≡ bad_line number) × (status ≡ 2))

-- The same, and the state in which they end: that before the end of the lines, or before a bad line.
abbrev pub ShowsTo : ℕ → State → List (List ℕ) → List ℕ → ℕ → State → Type 0
ShowsTo number old [] text status end = (text ≡ []) × (status ≡ status_of old.last) × (end ≡ old)
ShowsTo number old (line ∷ lines) text status end =
    ((length line ≤ line_limit) × IsSkipped line × ShowsTo (number + 1) old lines text status end)
    ⊎ ((length line ≤ line_limit) × (first : List ℕ) × (rest : List ℕ) × (mid : State)
    × Runs line old first mid × ShowsTo (number + 1) mid lines rest status end × (text ≡ first ++ rest))
    ⊎ (IsBad line × (text ≡ bad_line number) × (status ≡ 2) × (end ≡ old))

-- the same of lines that end with this region
abbrev pub ShowsEndFrom : ℕ → State → Option Region → List (List ℕ) → List ℕ → ℕ → Type 0
ShowsEndFrom number old region lines text status = (end : State) × ShowsTo number old lines text status end × (end.region ≡ region)

-- what a script may print that begins in this state, and its exit status
abbrev pub ShowsFrom : State → List (List ℕ) → List ℕ → ℕ → Type 0
ShowsFrom old lines text status = Shows 1 old lines text status

-- the same of a script that ends with this region
abbrev pub ShowsEnd : State → Option Region → List (List ℕ) → List ℕ → ℕ → Type 0
ShowsEnd old region lines text status = ShowsEndFrom 1 old region lines text status

-- it holds of each state that the session stands for
abbrev pub FromEach : Session → (State → Type 0) → Type 0
FromEach session P = (state : State) → StandsFor session state → P state

-- no line sets a stop
abbrev pub SetsNoStop : List (List ℕ) → Type 0
SetsNoStop lines = AllByRecursion (λ line. (fuse : Fuse) (keep : Keep) → Says line (Stop fuse keep) → ⊥) lines

-- no line shows or sets words by their addresses
abbrev pub HandlesNoWords : List (List ℕ) → Type 0
HandlesNoWords lines = AllByRecursion (λ line. (request : Request) → Says line request → handles_words request ≡ false) lines

-- the line is a file call that writes
abbrev pub CallsToWrite : List ℕ → Type 0
CallsToWrite line = (request : Request) × Says line request × (writes request ≡ true)

-- Behind a file call that writes no line shows or sets words by their addresses: no `peek`, no `poke` and no `cut`.
abbrev pub HandlesWordsFirst : List (List ℕ) → Type 0
HandlesWordsFirst [] = ⊤
HandlesWordsFirst (line ∷ lines) = (CallsToWrite line → HandlesNoWords lines) × HandlesWordsFirst lines

-- what a whole script may print, and its exit status
abbrev pub ShowsScript : List (List ℕ) → List ℕ → ℕ → Type 0
ShowsScript lines text status = Shows 1 first_state lines text status
