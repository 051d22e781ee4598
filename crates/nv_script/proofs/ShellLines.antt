-- What the answer to a line of a shell says of the lines that are reached: `number` is the line's number, and `state` and `mid`
-- are the states before and after it.
use Rattle.std.proofs.Common.{◌≡◌, ◌+◌, ◌++◌, ℕ, List, [], ◌∷◌, Option, Some, None, refl, inl, inr, ap, sym, ◌∙◌, append_assoc, append-nil}
use Rattle.std.specs.Io.KnownBytes.{Appends, Keeps}
use Rattle.nv_region.specs.Region.{Region}
use Rattle.nv_stream.specs.Known.{IfKnown}
use Rattle.nv_stream.specs.Lines.{lines_of}
use Rattle.nv_stream.specs.Streams.{AppendsShort, TakesKnownLine, TakesLine}
use Rattle.nv_stream.specs.declared.reading.Next.TheVariants as nexts
use Rattle.nv_stream.specs.declared.fault.ScriptError.{ScriptError}
use Rattle.nv_stream.specs.declared.fault.ScriptError.TheVariants as errors
use Rattle.nv_stream.proofs.KnownFacts.{known_map}
use Rattle.nv_stream.proofs.StreamLemmas.{appends_none, appends_both, appends_short}
use Rattle.nv_text.specs.Answers.{bad_line}
use Rattle.nv_report.specs.Last.{status_of}
use Rattle.nv_line.specs.Request.{Recover}
use Rattle.nv_session.specs.declared.printed.Printed.{Printed}
use Rattle.nv_session.specs.Machine.{State, Step, state_with}
use Rattle.nv_script.specs.Transcript.{WritesAll, WritesShort, WritesWhole, FailsScript}
use Rattle.nv_script.specs.Shell.{Kept, ShowsLinesEnd, ShowsAnyLines, ShowsShell, ShowsAnyShell, Answers, KnownAnswers, AnswersLine}
use Rattle.nv_script.specs.declared.shell.Answer.{Answer}
use Rattle.nv_script.specs.declared.shell.Answer.TheVariants.{End, Text, TooLong}
use Rattle.nv_script.proofs.Ending.{Weaker}
use Rattle.nv_script.proofs.KnownProgress.{KnownProgress, GoesOn, Ends, EndsInside, known_on}

module _ (left after now then : Option (List ℕ)) (number : ℕ) (state mid : State) (text : List ℕ) (here : List Kept) where
  module _ (region : Option Region) where
    shell_goes_on : (later : List Kept) (printed : Printed) → KnownAnswers number left after state (Text printed) text here mid → Appends now then text
        → IfKnown left after (λ input rest. GoesOn (ShowsLinesEnd number state (here ++ later) region) (ShowsLinesEnd (number + 1) mid later region) now then input rest)
    shell_goes_on later printed answers added = known_map left after _ _ (λ input rest (r : Answers number input rest state (Text printed) text here mid). record {
      line = r.0;
      first = text;
      read = r.1;
      added = added;
      step = λ more others status shown. (shown.0, inr (inr (r.2, text, others, here, later, mid, r.3, shown.1, refl, refl)), shown.2);
    }) answers

    ends_with : (status : ℕ) (input rest : List ℕ) → Answers number input rest state End text here mid → status ≡ status_of mid.last → mid.region ≡ region → Ends (ShowsLinesEnd number state here region) now now input status
    ends_with status input rest (inl none, kept, same) is there =
        let lines : lines_of input ≡ [] = ap lines_of none in
        let last : status ≡ status_of state.last = is ∙ ap (λ (s : State). status_of s.last) same in
        let ended : state.region ≡ region = ap (λ (s : State). s.region) (sym same) ∙ there in
        record { text = []; added = appends_none now; shown = rw lines (state, (kept, refl, last, refl), ended) }
    ends_with status input rest (inr quit, kept, same) is there =
        let last : status ≡ status_of state.last = is ∙ ap (λ (s : State). status_of s.last) same in
        let ended : state.region ≡ region = ap (λ (s : State). s.region) (sym same) ∙ there in
        record { text = []; added = appends_none now; shown = rw quit.1 (state, inl (refl, kept, refl, last, refl), ended) }

    pub shell_ends : (status : ℕ) → KnownAnswers number left after state End text here mid → status ≡ status_of mid.last → mid.region ≡ region → IfKnown left after (λ input rest. Ends (ShowsLinesEnd number state here region) now now input status)
    shell_ends status answers is there = known_map left after _ _ (λ input rest (r : Answers number input rest state End text here mid). ends_with status input rest r is there) answers

    pub too_long_ends : KnownAnswers number left after state TooLong text here mid → Appends now then (bad_line number) → mid.region ≡ region → IfKnown left after (λ input rest. Ends (ShowsLinesEnd number state here region) now then input 2)
    too_long_ends answers added there = known_map left after _ _ (λ input rest (r : Answers number input rest state TooLong text here mid).
        let ended : state.region ≡ region = ap (λ (s : State). s.region) (sym r.5) ∙ there in
        record { text = bad_line number; added = added; shown = rw r.2 (state, inr (inl (r.3, r.4, refl, refl, refl)), ended) }) answers

    -- how far the lines have come after one more
    pub line_on : (begin : State) (given later : List Kept) (known old : Option (List ℕ)) (printed : Printed)
        → KnownProgress (ShowsLinesEnd 1 begin (given ++ (here ++ later)) region) (ShowsLinesEnd number state (here ++ later) region) known left old now
        → KnownAnswers number left after state (Text printed) text here mid → Appends now then text
        → KnownProgress (ShowsLinesEnd 1 begin ((given ++ here) ++ later) region) (ShowsLinesEnd (number + 1) mid later region) known after old then
    line_on begin given later known old printed p answers added = rw (append_assoc given here later)
        (known_on (ShowsLinesEnd 1 begin (given ++ (here ++ later)) region) old (ShowsLinesEnd number state (here ++ later) region) now (ShowsLinesEnd (number + 1) mid later region) known left after then p
        (shell_goes_on later printed answers added))

  pub shell_ends_inside : (printed : Printed) → KnownAnswers number left after state (Text printed) text here mid → AppendsShort now then text → IfKnown left after (λ input rest. EndsInside (ShowsLinesEnd number state here mid.region) now then input)
  shell_ends_inside printed answers added = known_map left after _ _ (λ input rest (r : Answers number input rest state (Text printed) text here mid). record {
    line = r.0;
    behind = lines_of rest;
    text = text;
    status = status_of mid.last;
    read = r.1;
    added = added;
    shown = (mid, inr (inr (r.2, text, [], here, [], mid, r.3, (refl, refl, refl, refl), sym (append-nil text), sym (append-nil here))), refl);
  }) answers

  pub too_long_ends_inside : KnownAnswers number left after state TooLong text here mid → AppendsShort now then (bad_line number) → IfKnown left after (λ input rest. EndsInside (ShowsLinesEnd number state here state.region) now then input)
  too_long_ends_inside answers added = known_map left after _ _ (λ input rest (r : Answers number input rest state TooLong text here mid). record {
    line = r.0;
    behind = r.1;
    text = bad_line number;
    status = 2;
    read = r.2;
    added = added;
    shown = (state, inr (inl (r.3, r.4, refl, refl, refl)), refl);
  }) answers

-- ---- a line that was read

pub long_line : (number : ℕ) (left after : Option (List ℕ)) (line text : List ℕ) (state : State) → TakesKnownLine left after nexts.TooLong line → KnownAnswers number left after state TooLong text [] state
long_line number left after line text state taken = known_map left after _ _ (λ input rest (t : TakesLine input rest nexts.TooLong line). (t.0, t.1, t.2, t.3, refl, refl)) taken

pub no_line : (number : ℕ) (left after : Option (List ℕ)) (line text : List ℕ) (state : State) → TakesKnownLine left after nexts.End line → KnownAnswers number left after state End text [] state
no_line number left after line text state taken = known_map left after _ _ (λ input rest (t : TakesLine input rest nexts.End line). (inl t, refl, refl)) taken

pub line_answers : (number : ℕ) (left after : Option (List ℕ)) (line text : List ℕ) (old new : State) (answer : Answer) (kept : List Kept) → TakesKnownLine left after nexts.Line line → AnswersLine number line old answer text kept new → KnownAnswers number left after old answer text kept new
line_answers number left after line text old new End kept taken answers = known_map left after _ _ (λ input rest (t : TakesLine input rest nexts.Line line). (inr (lines_of rest, t.0 ∙ ap (λ x. x ∷ lines_of rest) answers.0), answers.1, answers.2)) taken
line_answers number left after line text old new (Text printed) kept taken answers = known_map left after _ _ (λ input rest (t : TakesLine input rest nexts.Line line). (line, t.0, t.1, answers)) taken
line_answers number left after line text old new TooLong kept taken answers = absurd answers

-- ---- behind the first answer

pub any_lines : (begin : State) (kept : List Kept) (region : Option Region) → Weaker (ShowsLinesEnd 1 begin kept region) (ShowsAnyLines 1 begin kept)
any_lines begin kept region lines text status s = (s.0, s.1)

-- a transcript that goes on behind a text
abbrev Behind : List ℕ → (first second : List (List ℕ) → List ℕ → ℕ → Type 0) → Type 0
Behind front first second = (lines : List (List ℕ)) (text : List ℕ) (status : ℕ) → first lines text status → second lines (front ++ text) status

pub shell_behind : (R : Region) (workers : ℕ) (kept : List Kept) (region : Option Region) (mid : State) (front : List ℕ) → Step (state_with R) (Recover workers) front mid → Behind front (ShowsLinesEnd 1 mid kept region) (ShowsShell R workers kept region)
shell_behind R workers kept region mid front step lines text status s = (front, text, mid, step, s, refl)

pub any_behind : (R : Region) (workers : ℕ) (kept : List Kept) (mid : State) (front : List ℕ) → Step (state_with R) (Recover workers) front mid → Behind front (ShowsAnyLines 1 mid kept) (ShowsAnyShell R workers kept)
any_behind R workers kept mid front step lines text status s = (s.0.region, (front, text, mid, step, (s.0, s.1, refl), refl))

module _ (front : List ℕ) (first second : List (List ℕ) → List ℕ → ℕ → Type 0) (behind : Behind front first second) (old mid : Option (List ℕ)) (added : Appends old mid front) where
  pub all_behind : (known new : Option (List ℕ)) (status : ℕ) → WritesAll first known mid new status → WritesAll second known old new status
  all_behind None new status w = tt
  all_behind (Some input) new status w = (front ++ w.0, appends_both old mid new front w.0 added w.1, behind _ w.0 status w.2)

  short_behind : (known new : Option (List ℕ)) → WritesShort first known mid new → WritesShort second known old new
  short_behind None new w = tt
  short_behind (Some input) new w = (w.0, front ++ w.1, w.2, appends_short old mid new front w.1 added w.3, behind _ w.1 w.2 w.4)

  whole_behind : (known new : Option (List ℕ)) → WritesWhole first known mid new → WritesWhole second known old new
  whole_behind None new w = tt
  whole_behind (Some input) new w = (w.0, front ++ w.1, w.2, appends_both old mid new front w.1 added w.3, behind _ w.1 w.2 w.4)

  pub fails_behind : (e : ScriptError) (known new : Option (List ℕ)) → FailsScript first e known mid new → FailsScript second e known old new
  fails_behind errors.Read known new w = whole_behind known new w
  fails_behind errors.Write known new w = short_behind known new w
  fails_behind errors.Memory known new w = whole_behind known new w

-- the first answer wasn't written whole
pub first_short : (R : Region) (workers : ℕ) (mid : State) (front : List ℕ) → Step (state_with R) (Recover workers) front mid → (known old new : Option (List ℕ)) → AppendsShort old new front → WritesShort (ShowsAnyShell R workers []) known old new
first_short R workers mid front step None old new added = tt
first_short R workers mid front step (Some input) old new added =
    (0, front, status_of mid.last, added, (mid.region, (front, [], mid, step, (mid, (refl, refl, refl, refl), refl), sym (append-nil front))))

-- nothing was written
pub keeps_same : (known : Option (List ℕ)) → Keeps known known
keeps_same None = tt
keeps_same (Some bytes) = refl
