-- What the answer to a line says of the hints behind the lines that are reached: `number` is the line's number, and `state`
-- and `mid` are the states before and after it.
use Rattle.std.proofs.Common.{◌≡◌, ℕ, ◌+◌, List, [], Option, refl, inl, inr, subst, ap}
use Rattle.std.specs.Io.KnownBytes.{Appends}
use Rattle.nv_stream.specs.Known.{IfKnown}
use Rattle.nv_stream.specs.Lines.{lines_of}
use Rattle.nv_line.specs.declared.reasons.Reason.{Reason}
use Rattle.nv_session.specs.declared.printed.Printed.{Printed}
use Rattle.nv_session.specs.Machine.{State}
use Rattle.nv_script.specs.Hints.{answer_hint, hint_line}
use Rattle.nv_script.specs.Strict.{IsLast, HintedBy}
use Rattle.nv_script.specs.declared.script.Rule.{Rule}
use Rattle.nv_script.specs.declared.hinting.Hint.TheVariants.{BadLine}
use Rattle.nv_script.specs.Replies.{Replies, KnownReplies}
use Rattle.nv_script.specs.declared.script.Reply.TheVariants.{End, Skipped, Text, Bad}
use Rattle.nv_script.proofs.KnownProgress.{GoesOn, Ends}
use Rattle.nv_stream.proofs.KnownFacts.{known_map}
use Rattle.nv_stream.proofs.StreamLemmas.{appends_none}

-- the hints from a line on, as a transcript whose exit status doesn't matter
abbrev pub hints_from : Rule → ℕ → State → List (List ℕ) → List ℕ → ℕ → Type 0
hints_from rule number state lines hints status = HintedBy rule number state lines hints

module _ (rule : Rule) (left after now then : Option (List ℕ)) (number : ℕ) (state mid : State) (said : List ℕ) where
  pub skipped_hints_nothing : KnownReplies left after state Skipped said mid → IfKnown left after (λ input rest. GoesOn (hints_from rule number state) (hints_from rule (number + 1) mid) now now input rest)
  skipped_hints_nothing replies = known_map left after _ _ (λ input rest (r : Replies input rest state Skipped said mid). record {
    line = r.0;
    first = [];
    read = r.1;
    added = appends_none now;
    step = λ more text status hinted. inl (r.2, r.3, subst (λ (s : State). HintedBy rule (number + 1) s more text) r.4 hinted);
  }) replies

  pub text_hints : (printed : Printed) → KnownReplies left after state (Text printed) said mid → (IsLast rule said → ⊥) → Appends now then (answer_hint said mid)
      → IfKnown left after (λ input rest. GoesOn (hints_from rule number state) (hints_from rule (number + 1) mid) now then input rest)
  text_hints printed replies more added = known_map left after _ _ (λ input rest (r : Replies input rest state (Text printed) said mid). record {
    line = r.0;
    first = answer_hint said mid;
    read = r.1;
    added = added;
    step = λ behind others status hinted. inr (inl (r.2, said, others, mid, r.3, more, hinted, refl));
  }) replies

  pub last_hints : (printed : Printed) → KnownReplies left after state (Text printed) said mid → IsLast rule said → Appends now then (answer_hint said mid)
      → IfKnown left after (λ input rest. Ends (hints_from rule number state) now then input 2)
  last_hints printed replies last added = known_map left after _ _ (λ input rest (r : Replies input rest state (Text printed) said mid). record {
    text = answer_hint said mid;
    added = added;
    shown = rw r.1 (inr (inr (inr (r.2, said, mid, r.3, last, refl))));
  }) replies

  pub end_hints : (status : ℕ) → KnownReplies left after state End said mid → IfKnown left after (λ input rest. Ends (hints_from rule number state) now now input status)
  end_hints status replies = known_map left after _ _ (λ input rest (r : Replies input rest state End said mid).
      let none : lines_of input ≡ [] = ap lines_of r.0 in
      record { text = []; added = appends_none now; shown = rw none refl }) replies

  pub bad_hints : (reason : Reason) → KnownReplies left after state (Bad reason) said mid → Appends now then (hint_line (BadLine number reason))
      → IfKnown left after (λ input rest. Ends (hints_from rule number state) now then input 2)
  bad_hints reason replies added = known_map left after _ _ (λ input rest (r : Replies input rest state (Bad reason) said mid). record {
    text = hint_line (BadLine number reason);
    added = added;
    shown = rw r.2 (inr (inr (inl (r.3, ap (λ (x : Reason). hint_line (BadLine number x)) r.4))));
  }) replies
