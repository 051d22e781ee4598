-- What a shell may print: it runs the commands of scripts and a few of its own, and a bad line doesn't end it.
use Rattle.std.specs.Prelude.{◌≡◌, ◌⊎◌, ◌≤◌, ◌<◌, ◌+◌, ℕ, List, [], ◌∷◌, ◌++◌, length, Bool, true, false, Option, Some, None, codes, ⊤}
use Rattle.std.specs.Io.KnownBytes.{Keeps}
use Rattle.nv_region.specs.Region.{Region}
use Rattle.nv_stream.specs.Known.{IfKnown}
use Rattle.nv_stream.specs.Lines.{lines_of, line_limit}
use Rattle.nv_stream.specs.declared.fault.ScriptError.{ScriptError}
use Rattle.nv_stream.specs.declared.fault.ScriptError.TheVariants.{Memory}
use Rattle.nv_line.specs.Lines.{IsSkipped, IsBad}
use Rattle.nv_line.specs.Request.{Recover}
use Rattle.nv_text.specs.Answers.{line, ok_line, bad_line}
use Rattle.nv_report.specs.Last.{status_of}
use Rattle.nv_session.specs.Machine.{State, state_with, Step}
use Rattle.nv_session.specs.Printed.{Prints}
use Rattle.nv_session.specs.declared.session.Session.{Session}
use Rattle.nv_script.specs.Script.{Runs}
use Rattle.nv_script.specs.Transcript.{FailsScript}
use Rattle.nv_script.specs.declared.shell.Own.{Own}
use Rattle.nv_script.specs.declared.shell.Own.TheVariants.{Help, Quit, Save, SaveAs}
use Rattle.nv_script.specs.declared.shell.Answer.{Answer}
use Rattle.nv_script.specs.declared.shell.Answer.TheVariants.{End, Text, TooLong}

-- A region that was kept, and the path of the file where that isn't the one from which the region came.
pub record Kept : Type 0 where
  pub region : Region
  pub path : Option (List ℕ)

-- a list of what was kept grows by this, where it is known
abbrev pub Grows : Option (List Kept) → Option (List Kept) → List Kept → Type 0
Grows None new more = ⊤
Grows (Some old) None more = ⊥
Grows (Some old) (Some new) more = new ≡ old ++ more

-- it grows by some of which this holds
abbrev pub GrowsBy : Option (List Kept) → Option (List Kept) → (List Kept → Type 0) → Type 0
GrowsBy old new P = (more : List Kept) × Grows old new more × P more

-- what is kept where one is asked to keep this, and answers so
abbrev pub kept_by : Bool → Region → Option (List ℕ) → List Kept
kept_by true R path = record { region = R; path = path } ∷ []
kept_by false R path = []

-- the line asks for the region to be kept in the file from which it came, or in another
abbrev pub AsksSaveIn : List ℕ → Option (List ℕ) → Type 0
AsksSaveIn said None = said ≡ codes "save"
AsksSaveIn said (Some path) = said ≡ codes "save " ++ path

-- the line asks for the region to be kept
abbrev pub AsksSave : List ℕ → Type 0
AsksSave said = (path : Option (List ℕ)) × AsksSaveIn said path

-- the line is a command of the shell's own
abbrev pub IsOwn : List ℕ → Type 0
IsOwn said = (said ≡ codes "help") ⊎ (said ≡ codes "quit") ⊎ AsksSave said

-- what `help` prints: the form of each command
abbrev pub help_text : List ℕ
help_text = codes "list PATH\nstat PATH\nread PATH OFFSET COUNT\ncreate CPU PATH\nmkdir CPU PATH\nwrite CPU PATH OFFSET COUNT BYTE\nsize CPU PATH N\nattr CPU PATH MODE OWNER GROUP\nlink CPU OLD NEW\nunlink CPU PATH\nrmdir CPU PATH\nrename CPU OLD NEW\nclean PATH\nupgrade\ntree\nfree\nfaults\nreport\npeek AT\ntime T\nrecover WORKERS\nreplay WORKERS w w ..\nstop after|at N none|all|alternate\npoke AT VALUE\ncut LENGTH\nformat CPUS BLOCKS TABLES\nhelp\nquit\nsave\nsave PATH\n"

-- what `save` prints where the region isn't kept
abbrev pub not_saved_line : List ℕ
not_saved_line = line (codes "not saved")

-- What `save` prints, and what is kept: `ok` where there is a region and it is kept, and else that nothing is.
abbrev pub IsSaveAnswer : Option Region → Option (List ℕ) → List ℕ → List Kept → Type 0
IsSaveAnswer None path text kept = (text ≡ not_saved_line) × (kept ≡ [])
IsSaveAnswer (Some R) path text kept = ((text ≡ ok_line) × (kept ≡ kept_by true R path)) ⊎ ((text ≡ not_saved_line) × (kept ≡ []))

-- the line asks for the region to be kept, and this is the answer
abbrev pub Saves : State → List ℕ → List ℕ → List Kept → Type 0
Saves old said text kept = (path : Option (List ℕ)) × AsksSaveIn said path × IsSaveAnswer old.region path text kept

-- What the line of this number prints and leaves that keeps nothing, and doesn't end the shell: help, nothing for a line that
-- is skipped, what a command may print, or that the line is bad.
abbrev pub Tells : ℕ → State → List ℕ → List ℕ → State → Type 0
Tells number old said text new =
    ((said ≡ codes "help") × (text ≡ help_text) × (new ≡ old))
    ⊎ (IsSkipped said × (text ≡ []) × (new ≡ old))
    ⊎ Runs said old text new
    ⊎ ((IsOwn said → ⊥) × IsBad said × (text ≡ bad_line number) × (new ≡ old))

-- what a line prints, keeps and leaves that doesn't end the shell
abbrev pub Does : ℕ → State → List ℕ → List ℕ → List Kept → State → Type 0
Does number old said text kept new = (Saves old said text kept × (new ≡ old)) ⊎ (Tells number old said text new × (kept ≡ []))

-- The lines from this number on may print this text, keep these regions, end with this status and in this state, from a state
-- on. The shell ends with its last line, at `quit`, or at a line that is too long, which is bad.
abbrev pub ShowsLines : ℕ → State → List Kept → List (List ℕ) → List ℕ → ℕ → State → Type 0
ShowsLines number old kept [] text status end = (kept ≡ []) × (text ≡ []) × (status ≡ status_of old.last) × (end ≡ old)
ShowsLines number old kept (said ∷ lines) text status end =
    ((said ≡ codes "quit") × (kept ≡ []) × (text ≡ []) × (status ≡ status_of old.last) × (end ≡ old))
    ⊎ ((line_limit < length said) × (kept ≡ []) × (text ≡ bad_line number) × (status ≡ 2) × (end ≡ old))
    ⊎ ((length said ≤ line_limit) × (first : List ℕ) × (rest : List ℕ) × (here : List Kept) × (later : List Kept) × (mid : State)
    × Does number old said first here mid × ShowsLines (number + 1) mid later lines rest status end × (text ≡ first ++ rest) × (kept ≡ here ++ later))

-- the same of lines that end with this region
abbrev pub ShowsLinesEnd : ℕ → State → List Kept → Option Region → List (List ℕ) → List ℕ → ℕ → Type 0
ShowsLinesEnd number old kept region lines text status = (end : State) × ShowsLines number old kept lines text status end × (end.region ≡ region)

-- the same, whatever region there is at its end
abbrev pub ShowsAnyLines : ℕ → State → List Kept → List (List ℕ) → List ℕ → ℕ → Type 0
ShowsAnyLines number old kept lines text status = (end : State) × ShowsLines number old kept lines text status end

-- What a shell on a region may print that keeps these regions and ends with this one, and its exit status: it recovers the
-- region with so many workers first.
abbrev pub ShowsShell : Region → ℕ → List Kept → Option Region → List (List ℕ) → List ℕ → ℕ → Type 0
ShowsShell R workers kept region lines text status = (first : List ℕ) × (rest : List ℕ) × (mid : State)
    × Step (state_with R) (Recover workers) first mid × ShowsLinesEnd 1 mid kept region lines rest status × (text ≡ first ++ rest)

-- the same, whatever region there is at its end
abbrev pub ShowsAnyShell : Region → ℕ → List Kept → List (List ℕ) → List ℕ → ℕ → Type 0
ShowsAnyShell R workers kept lines text status = (region : Option Region) × ShowsShell R workers kept region lines text status

-- What an error leaves: the whole output of the first lines, which kept these regions, or less where the writer failed; and
-- nothing where memory was refused before the first answer.
abbrev pub FailsShell : Region → ℕ → List Kept → ScriptError → Option (List ℕ) → Option (List ℕ) → Option (List ℕ) → Type 0
FailsShell R workers kept e known old new = ((e ≡ Memory) × (kept ≡ []) × Keeps old new) ⊎ FailsScript (ShowsAnyShell R workers kept) e known old new

-- ---- within

-- what a line asks for that is a command of the shell's own
abbrev pub Asks : List ℕ → Own → Type 0
Asks said Help = said ≡ codes "help"
Asks said Quit = said ≡ codes "quit"
Asks said Save = said ≡ codes "save"
Asks said (SaveAs path) = said ≡ codes "save " ++ path.now

-- nothing is kept for a line that prints nothing, or that is too long
abbrev pub KeepsFor : Answer → List Kept → Type 0
KeepsFor (Text printed) kept = ⊤
KeepsFor _ kept = kept ≡ []

-- the text of an answer that has one is this, as the session prints it
abbrev pub PrintsAnswer : Session → Answer → List ℕ → Type 0
PrintsAnswer s (Text printed) said = Prints s printed said
PrintsAnswer s _ said = ⊤

-- what becomes of a line, the text of that, what is kept for it, and the state after it
abbrev pub AnswersLine : ℕ → List ℕ → State → Answer → List ℕ → List Kept → State → Type 0
AnswersLine number said old End text kept new = (said ≡ codes "quit") × (kept ≡ []) × (new ≡ old)
AnswersLine number said old (Text printed) text kept new = Does number old said text kept new
AnswersLine number said old TooLong text kept new = ⊥

-- from the input to what is left of it, and from a state to the next
abbrev pub Answers : ℕ → List ℕ → List ℕ → State → Answer → List ℕ → List Kept → State → Type 0
Answers number input left old End text kept new = ((input ≡ []) ⊎ ((more : List (List ℕ)) × (lines_of input ≡ codes "quit" ∷ more))) × (kept ≡ []) × (new ≡ old)
Answers number input left old (Text printed) text kept new = (said : List ℕ) × (lines_of input ≡ said ∷ lines_of left) × (length said ≤ line_limit) × Does number old said text kept new
Answers number input left old TooLong text kept new = (said : List ℕ) × (more : List (List ℕ)) × (lines_of input ≡ said ∷ more) × (line_limit < length said) × (kept ≡ []) × (new ≡ old)

-- the same, where the input is known
abbrev pub KnownAnswers : ℕ → Option (List ℕ) → Option (List ℕ) → State → Answer → List ℕ → List Kept → State → Type 0
KnownAnswers number known left old answer text kept new = IfKnown known left (λ input rest. Answers number input rest old answer text kept new)
