-- What the answer to a line says of the lines that are reached: `number` is the line's number, and `state` and `mid` are
-- the states before and after it.
use Rattle.std.proofs.Common.{◌≡◌, ◌⊎◌, ◌<◌, ◌≤◌, ℕ, ◌+◌, nat_lt, Bool, true, false, List, [], length, Option, refl, inl, inr, subst, ap, sym, ◌∙◌, append-nil, arith}
use Rattle.std.specs.Prelude.{MatchBool}
use Rattle.std.specs.Io.KnownBytes.{Appends}
use Rattle.nv_text.specs.Answers.{bad_line}
use Rattle.nv_stream.specs.Known.{IfKnown}
use Rattle.nv_report.specs.Last.{status_of}
use Rattle.nv_stream.specs.Lines.{lines_of, line_limit}
use Rattle.nv_line.specs.Spelling.{Says}
use Rattle.nv_line.specs.View.{view}
use Rattle.nv_line.specs.declared.commands.Command.{Command}
use Rattle.nv_line.specs.Reasons.{reason_of}
use Rattle.nv_line.specs.declared.reasons.Reason.{Reason}
use Rattle.nv_line.specs.declared.reasons.Reason.TheVariants as reasons
use Rattle.nv_stream.specs.declared.reading.Next.TheVariants as nexts
use Rattle.nv_session.specs.Sessions.{Moves, Leads}
use Rattle.nv_session.specs.declared.session.Session.{Session}
use Rattle.nv_session.specs.declared.printed.Printed.{Printed}
use Rattle.nv_session.specs.Machine.{State, Step}
use Rattle.nv_region.specs.Region.{Region}
use Rattle.nv_script.specs.Strict.{IsLast, ShowsBy, ShowsByFrom}
use Rattle.nv_script.specs.declared.script.Rule.{Rule}
use Rattle.nv_script.specs.Replies.{Replies, KnownReplies, RepliesTo}
use Rattle.nv_stream.specs.Streams.{AppendsShort, TakesKnownLine, TakesLine}
use Rattle.nv_script.specs.declared.script.Reply.{Reply}
use Rattle.nv_script.specs.declared.script.Reply.TheVariants.{End, Skipped, Text, Bad}
use Rattle.nv_script.proofs.KnownProgress.{GoesOn, Ends, EndsInside}
use Rattle.std.proofs.lemmas.Bool.{MatchBool-at_true, MatchBool-at_false}
use Rattle.std.proofs.lemmas.Bool.Decides.{nat_tests}
use Rattle.nv_stream.proofs.KnownFacts.{known_map}
use Rattle.nv_stream.proofs.StreamLemmas.{appends_none}

-- the answer ends the script, or it doesn't
abbrev pub MayBeLast : Rule → List ℕ → Type 0
MayBeLast rule said = IsLast rule said ⊎ (IsLast rule said → ⊥)

pub may_be_last : (rule : Rule) (said : List ℕ) (b : Bool) → MatchBool b (IsLast rule said) (IsLast rule said → ⊥) → MayBeLast rule said
may_be_last rule said true is = inl is
may_be_last rule said false is = inr is

pub is_last_behind : (rule : Rule) (said : List ℕ) (b : Bool) → b ≡ true → MatchBool b (IsLast rule said) (IsLast rule said → ⊥) → IsLast rule said
is_last_behind rule said b is known = MatchBool-at_true (IsLast rule said) (IsLast rule said → ⊥) is known

pub goes_on_behind : (rule : Rule) (said : List ℕ) (b : Bool) → b ≡ false → MatchBool b (IsLast rule said) (IsLast rule said → ⊥) → IsLast rule said → ⊥
goes_on_behind rule said b is known = MatchBool-at_false (IsLast rule said) (IsLast rule said → ⊥) is known

module _ (rule : Rule) (left after now then : Option (List ℕ)) (number : ℕ) (state mid : State) (said : List ℕ) where
  module _ (region : Option Region) where
    pub skipped_goes_on : KnownReplies left after state Skipped said mid → IfKnown left after (λ input rest. GoesOn (ShowsByFrom rule number state region) (ShowsByFrom rule (number + 1) mid region) now now input rest)
    skipped_goes_on replies = known_map left after _ _ (λ input rest (r : Replies input rest state Skipped said mid). record {
      line = r.0;
      first = [];
      read = r.1;
      added = appends_none now;
      step = λ more text status shown. (shown.0, inl (r.2, r.3, subst (λ (s : State). ShowsBy rule (number + 1) s more text status shown.0) r.4 shown.1), shown.2);
    }) replies

    pub end_ends : (status : ℕ) → KnownReplies left after state End said mid → status ≡ status_of mid.last → mid.region ≡ region → IfKnown left after (λ input rest. Ends (ShowsByFrom rule number state region) now now input status)
    end_ends status replies is there = known_map left after _ _ (λ input rest (r : Replies input rest state End said mid).
        let none : lines_of input ≡ [] = ap lines_of r.0 in
        let last : status ≡ status_of state.last = is ∙ ap (λ (s : State). status_of s.last) r.1 in
        let here : state.region ≡ region = ap (λ (s : State). s.region) (sym r.1) ∙ there in
        record { text = []; added = appends_none now; shown = rw none (state, (refl, last, refl), here) }) replies

    pub bad_ends : (reason : Reason) → KnownReplies left after state (Bad reason) said mid → Appends now then (bad_line number) → mid.region ≡ region → IfKnown left after (λ input rest. Ends (ShowsByFrom rule number state region) now then input 2)
    bad_ends reason replies added there = known_map left after _ _ (λ input rest (r : Replies input rest state (Bad reason) said mid).
        let here : state.region ≡ region = ap (λ (s : State). s.region) (sym r.5) ∙ there in
        record { text = bad_line number; added = added; shown = rw r.2 (state, inr (inr (inl (r.3, refl, refl, refl))), here) }) replies

    pub text_goes_on : (printed : Printed) → KnownReplies left after state (Text printed) said mid → (IsLast rule said → ⊥) → Appends now then said
        → IfKnown left after (λ input rest. GoesOn (ShowsByFrom rule number state region) (ShowsByFrom rule (number + 1) mid region) now then input rest)
    text_goes_on printed replies goes added = known_map left after _ _ (λ input rest (r : Replies input rest state (Text printed) said mid). record {
      line = r.0;
      first = said;
      read = r.1;
      added = added;
      step = λ more others status shown. (shown.0, inr (inl (r.2, said, others, mid, r.3, goes, shown.1, refl)), shown.2);
    }) replies

    pub last_ends : (printed : Printed) → KnownReplies left after state (Text printed) said mid → IsLast rule said → Appends now then said → mid.region ≡ region
        → IfKnown left after (λ input rest. Ends (ShowsByFrom rule number state region) now then input 2)
    last_ends printed replies last added there = known_map left after _ _ (λ input rest (r : Replies input rest state (Text printed) said mid).
        record { text = said; added = added; shown = rw r.1 (mid, inr (inr (inr (r.2, r.3, last, refl))), there) }) replies

  pub bad_ends_inside : (reason : Reason) → KnownReplies left after state (Bad reason) said mid → AppendsShort now then (bad_line number) → IfKnown left after (λ input rest. EndsInside (ShowsByFrom rule number state state.region) now then input)
  bad_ends_inside reason replies added = known_map left after _ _ (λ input rest (r : Replies input rest state (Bad reason) said mid). record {
    line = r.0;
    behind = r.1;
    text = bad_line number;
    status = 2;
    read = r.2;
    added = added;
    shown = (state, inr (inr (inl (r.3, refl, refl, refl))), refl);
  }) replies

  pub text_ends_inside : (printed : Printed) → KnownReplies left after state (Text printed) said mid → MayBeLast rule said → AppendsShort now then said → IfKnown left after (λ input rest. EndsInside (ShowsByFrom rule number state mid.region) now then input)
  text_ends_inside printed replies (inl last) added = known_map left after _ _ (λ input rest (r : Replies input rest state (Text printed) said mid). record {
    line = r.0;
    behind = lines_of rest;
    text = said;
    status = 2;
    read = r.1;
    added = added;
    shown = (mid, inr (inr (inr (r.2, r.3, last, refl))), refl);
  }) replies
  text_ends_inside printed replies (inr more) added = known_map left after _ _ (λ input rest (r : Replies input rest state (Text printed) said mid). record {
    line = r.0;
    behind = lines_of rest;
    text = said;
    status = status_of mid.last;
    read = r.1;
    added = added;
    shown = (mid, inr (inl (r.2, said, [], mid, r.3, more, (refl, refl, refl), sym (append-nil said))), refl);
  }) replies

-- a command was run
pub executed : (line : List ℕ) (command : Command) (old new : Session) (printed : Printed) (said : List ℕ) → (length line ≤ line_limit) × Says line (view command)
    → Moves (λ from said to. Step from (view command) said to) old said new → Leads (λ from to. RepliesTo line from (Text printed) said to) old new
executed line command old new printed said says moves = λ state stands. let next = moves state stands in (next.0, (says.0, (view command, says.1, next.1)), next.2)

-- a line that is too long says so
too_long : (line : List ℕ) → line_limit < length line → reasons.TooLong ≡ reason_of line
unfolding reason_of
too_long line long = let over : nat_lt line_limit (length line) ≡ true = grind (arith, nat_tests, long) in rw over refl

pub long_replies : (left after : Option (List ℕ)) (line said : List ℕ) (state : State) → TakesKnownLine left after nexts.TooLong line → KnownReplies left after state (Bad reasons.TooLong) said state
long_replies left after line said state taken = known_map left after _ _ (λ input rest (t : TakesLine input rest nexts.TooLong line). (t.0, t.1, t.2, inl t.3, too_long t.0 t.3, refl)) taken

-- a line that was read is answered as such a line
pub line_replies : (left after : Option (List ℕ)) (line said : List ℕ) (old new : State) (reply : Reply) → TakesKnownLine left after nexts.Line line → RepliesTo line old reply said new → KnownReplies left after old reply said new
line_replies left after line said old new End taken replies = absurd replies
line_replies left after line said old new Skipped taken replies = known_map left after _ _ (λ input rest (t : TakesLine input rest nexts.Line line). (line, t.0, replies.0, replies.1, replies.2)) taken
line_replies left after line said old new (Text printed) taken replies = known_map left after _ _ (λ input rest (t : TakesLine input rest nexts.Line line). (line, t.0, replies.0, replies.1)) taken
line_replies left after line said old new (Bad reason) taken replies = known_map left after _ _ (λ input rest (t : TakesLine input rest nexts.Line line). (line, lines_of rest, t.0, replies.0, replies.1, replies.2)) taken
