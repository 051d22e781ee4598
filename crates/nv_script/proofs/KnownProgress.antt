-- How far a script has come, where the bytes of its reader are known. `left` is what is left of the input.
use Rattle.std.proofs.Common.{◌≡◌, ◌≢◌, ℕ, List, [], ◌∷◌, ◌++◌, Option, Some, None, sym, subst, ◌∙◌}
use Rattle.std.specs.Io.KnownBytes.{Appends}
use Rattle.nv_stream.specs.Known.{IfKnown}
use Rattle.nv_stream.specs.Lines.{lines_of}
use Rattle.nv_stream.specs.Streams.{AppendsShort}
use Rattle.nv_script.specs.Transcript.{WritesAll, WritesShort, WritesWhole, FailsScript}
use Rattle.nv_stream.specs.declared.fault.ScriptError.{ScriptError}
use Rattle.nv_stream.specs.declared.fault.ScriptError.TheVariants as errors
use Rattle.nv_script.proofs.Progress.{Progress, begins, goes_on, all_here, whole_here, short_there}

abbrev pub KnownProgress : (shows here : List (List ℕ) → List ℕ → ℕ → Type 0) → (known left old now : Option (List ℕ)) → Type 0
KnownProgress shows here known left old now = IfKnown known left (λ input rest. Progress shows here (lines_of input) (lines_of rest) old now)

-- The next line of the input printed `first`, and `next` is what the lines behind it may show.
pub record GoesOn (here next : List (List ℕ) → List ℕ → ℕ → Type 0) (now then : Option (List ℕ)) (input rest : List ℕ) : Type 0 where
  pub line : List ℕ
  pub first : List ℕ
  pub read : lines_of input ≡ line ∷ lines_of rest
  pub added : Appends now then first
  pub step : (more : List (List ℕ)) (text : List ℕ) (status : ℕ) → next more text status → here (line ∷ more) (first ++ text) status

-- All lines of the input show a text, which was added.
pub record Ends (here : List (List ℕ) → List ℕ → ℕ → Type 0) (now then : Option (List ℕ)) (input : List ℕ) (status : ℕ) : Type 0 where
  pub text : List ℕ
  pub added : Appends now then text
  pub shown : here (lines_of input) text status

-- The next line of the input shows a text, of which a front was added, and not all.
pub record EndsInside (here : List (List ℕ) → List ℕ → ℕ → Type 0) (now then : Option (List ℕ)) (input : List ℕ) : Type 0 where
  pub line : List ℕ
  pub behind : List (List ℕ)
  pub text : List ℕ
  pub status : ℕ
  pub read : lines_of input ≡ line ∷ behind
  pub added : AppendsShort now then text
  pub shown : here (line ∷ []) text status

module _ (shows : List (List ℕ) → List ℕ → ℕ → Type 0) (old : Option (List ℕ)) where
  -- before the first line
  pub known_begins : (known : Option (List ℕ)) → KnownProgress shows shows known known old old
  known_begins None = tt
  known_begins (Some input) = begins shows (lines_of input) old

  module _ (here : List (List ℕ) → List ℕ → ℕ → Type 0) (now : Option (List ℕ)) where
    -- after one line more
    pub known_on : (next : List (List ℕ) → List ℕ → ℕ → Type 0) (known left after then : Option (List ℕ)) → KnownProgress shows here known left old now
        → IfKnown left after (λ input rest. GoesOn here next now then input rest) → KnownProgress shows next known after old then
    known_on next None left after then p on = tt
    known_on next (Some input) None after then p on = absurd p
    known_on next (Some input) (Some left) None then p on = absurd on
    known_on next (Some input) (Some left) (Some after) then p on =
        goes_on shows here (lines_of input) (lines_of after) old now next on.line on.first then (rw on.read at p) on.added on.step

    -- at the end
    pub known_all : (known left after then : Option (List ℕ)) (status : ℕ) → KnownProgress shows here known left old now
        → IfKnown left after (λ input rest. Ends here now then input status) → WritesAll shows known old then status
    known_all None left after then status p end = tt
    known_all (Some input) None after then status p end = absurd p
    known_all (Some input) (Some left) None then status p end = absurd end
    known_all (Some input) (Some left) (Some after) then status p end =
        all_here shows here (lines_of input) (lines_of left) old now then end.text status p end.shown end.added

    -- an error between two lines
    pub known_whole : (known left : Option (List ℕ)) (status : ℕ) → KnownProgress shows here known left old now → here [] [] status → WritesWhole shows known old now
    known_whole None left status p ended = tt
    known_whole (Some input) None status p ended = absurd p
    known_whole (Some input) (Some left) status p ended = whole_here shows here (lines_of input) (lines_of left) old now status p ended

    -- an error while a line was answered
    pub known_short : (known left after then : Option (List ℕ)) → KnownProgress shows here known left old now
        → IfKnown left after (λ input rest. EndsInside here now then input) → WritesShort shows known old then
    known_short None left after then p end = tt
    known_short (Some input) None after then p end = absurd p
    known_short (Some input) (Some left) None then p end = absurd end
    known_short (Some input) (Some left) (Some after) then p end =
        short_there shows here (lines_of input) end.behind old now end.line then end.text end.status (rw end.read at p) end.shown end.added

-- what an error leaves that isn't the writer's, and what the writer's leaves
pub fails_whole : (shows : List (List ℕ) → List ℕ → ℕ → Type 0) (e f : ScriptError) (known old new : Option (List ℕ)) → e ≡ f → f ≢ errors.Write → WritesWhole shows known old new → FailsScript shows e known old new
fails_whole shows errors.Read f known old new is other whole = whole
fails_whole shows errors.Memory f known old new is other whole = whole
fails_whole shows errors.Write f known old new is other whole = absurd (other (sym is))

pub fails_short : (shows : List (List ℕ) → List ℕ → ℕ → Type 0) (e f : ScriptError) (known old new : Option (List ℕ)) → e ≡ f → f ≡ errors.Write → WritesShort shows known old new → FailsScript shows e known old new
fails_short shows e f known old new is write short = subst (λ (x : ScriptError). FailsScript shows x known old new) (sym (is ∙ write)) short
