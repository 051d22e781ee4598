-- What reading and running one line may answer.
use Rattle.std.specs.Prelude.{◌≡◌, ℕ, ◌≤◌, ⊤, List, ◌∷◌, [], length, Option}
use Rattle.nv_line.specs.Lines.{IsSkipped, IsBad}
use Rattle.nv_stream.specs.Known.{IfKnown}
use Rattle.nv_stream.specs.Lines.{lines_of, line_limit}
use Rattle.nv_line.specs.Reasons.{reason_of}
use Rattle.nv_session.specs.Machine.{State}
use Rattle.nv_session.specs.Printed.{Prints}
use Rattle.nv_session.specs.declared.session.Session.{Session}
use Rattle.nv_script.specs.Script.{Runs}
use Rattle.nv_script.specs.declared.script.Reply.{Reply}
use Rattle.nv_script.specs.declared.script.Reply.TheVariants.{End, Skipped, Text, Bad}

-- the text of a reply that has one is this, as the session prints it
abbrev pub PrintsReply : Session → Reply → List ℕ → Type 0
PrintsReply s (Text printed) said = Prints s printed said
PrintsReply s _ said = ⊤

-- what a line is answered with, the text of that, and the state after it
abbrev pub RepliesTo : List ℕ → State → Reply → List ℕ → State → Type 0
RepliesTo line old End said new = ⊥
RepliesTo line old Skipped said new = (length line ≤ line_limit) × IsSkipped line × (new ≡ old)
RepliesTo line old (Text printed) said new = (length line ≤ line_limit) × Runs line old said new
RepliesTo line old (Bad reason) said new = IsBad line × (reason ≡ reason_of line) × (new ≡ old)

-- from the input to what is left of it, and from a state to the next
abbrev pub Replies : List ℕ → List ℕ → State → Reply → List ℕ → State → Type 0
Replies input left old End said new = (input ≡ []) × (new ≡ old)
Replies input left old Skipped said new = (line : List ℕ) × (lines_of input ≡ line ∷ lines_of left) × (length line ≤ line_limit) × IsSkipped line × (new ≡ old)
Replies input left old (Text printed) said new = (line : List ℕ) × (lines_of input ≡ line ∷ lines_of left) × (length line ≤ line_limit) × Runs line old said new
Replies input left old (Bad reason) said new = (line : List ℕ) × (more : List (List ℕ)) × (lines_of input ≡ line ∷ more) × IsBad line × (reason ≡ reason_of line) × (new ≡ old)

-- the same, where the input is known
abbrev pub KnownReplies : Option (List ℕ) → Option (List ℕ) → State → Reply → List ℕ → State → Type 0
KnownReplies known left old reply said new = IfKnown known left (λ input rest. Replies input rest old reply said new)
