-- How a script ends: what it showed, by what it showed and the region that it ended with; and that by the lenient rule it ends
-- at a bad line alone.
use Rattle.std.proofs.Common.{ℕ, suc, ◌+◌, List, [], ◌∷◌, take, Option, Some, None, refl, sym, inl, inr, append-nil}
use Rattle.nv_region.specs.Region.{Region}
use Rattle.nv_report.specs.Last.{status_of}
use Rattle.nv_session.specs.Machine.{State}
use Rattle.nv_stream.specs.Known.{IfKnown}
use Rattle.nv_stream.specs.declared.fault.ScriptError.{ScriptError}
use Rattle.nv_stream.specs.declared.fault.ScriptError.TheVariants as errors
use Rattle.nv_script.specs.Hints.{Hinted, HintsFrom}
use Rattle.nv_script.specs.Script.{Shows, ShowsTo, ShowsFrom, ShowsEnd}
use Rattle.nv_script.specs.Strict.{ShowsBy, ShowsByFrom, ShowsEndBy, ShowsFromBy, HintedBy, HintsFromBy}
use Rattle.nv_script.specs.Transcript.{WritesAll, WritesShort, WritesWhole, FailsScript}
use Rattle.nv_script.specs.declared.script.Rule.{Rule}
use Rattle.nv_script.specs.declared.script.Rule.TheVariants.{Lenient, Strict}
use Rattle.nv_script.proofs.KnownProgress.{KnownProgress, EndsInside, known_whole, known_short}

-- a transcript that says less
abbrev pub Weaker : (first second : List (List ℕ) → List ℕ → ℕ → Type 0) → Type 0
Weaker first second = (lines : List (List ℕ)) (text : List ℕ) (status : ℕ) → first lines text status → second lines text status

-- ---- the lenient rule

lenient_to : (number : ℕ) (old : State) (lines : List (List ℕ)) (text : List ℕ) (status : ℕ) (end : State) → ShowsBy Lenient number old lines text status end → ShowsTo number old lines text status end
lenient_to number old [] text status end s = s
lenient_to number old (line ∷ lines) text status end (inl s) = inl (s.0, s.1, lenient_to (number + 1) old lines text status end s.2)
lenient_to number old (line ∷ lines) text status end (inr (inl s)) = inr (inl (s.0, s.1, s.2, s.3, s.4, lenient_to (number + 1) s.3 lines s.2 status end s.6, s.7))
lenient_to number old (line ∷ lines) text status end (inr (inr (inl s))) = inr (inr s)
lenient_to number old (line ∷ lines) text status end (inr (inr (inr s))) = absurd s.2

shows : (number : ℕ) (old : State) (lines : List (List ℕ)) (text : List ℕ) (status : ℕ) (end : State) → ShowsTo number old lines text status end → Shows number old lines text status
shows number old [] text status end s = (s.0, s.1)
shows number old (line ∷ lines) text status end (inl s) = inl (s.0, s.1, shows (number + 1) old lines text status end s.2)
shows number old (line ∷ lines) text status end (inr (inl s)) = inr (inl (s.0, s.1, s.2, s.3, s.4, shows (number + 1) s.3 lines s.2 status end s.5, s.6))
shows number old (line ∷ lines) text status end (inr (inr s)) = inr (inr (s.0, s.1, s.2))

hinted : (number : ℕ) (old : State) (lines : List (List ℕ)) (hints : List ℕ) → HintedBy Lenient number old lines hints → Hinted number old lines hints
hinted number old [] hints s = s
hinted number old (line ∷ lines) hints (inl s) = inl (s.0, s.1, hinted (number + 1) old lines hints s.2)
hinted number old (line ∷ lines) hints (inr (inl s)) = inr (inl (s.0, s.1, s.2, s.3, s.4, hinted (number + 1) s.3 lines s.2 s.6, s.7))
hinted number old (line ∷ lines) hints (inr (inr (inl s))) = inr (inr s)
hinted number old (line ∷ lines) hints (inr (inr (inr s))) = absurd s.4

pub lenient_end : (begin : State) (region : Option Region) → Weaker (ShowsEndBy Lenient begin region) (ShowsEnd begin region)
lenient_end begin region lines text status s = (s.0, lenient_to 1 begin lines text status s.0 s.1, s.2)

pub lenient_from : (begin : State) → Weaker (ShowsFromBy Lenient begin) (ShowsFrom begin)
lenient_from begin lines text status s = shows 1 begin lines text status s.0 (lenient_to 1 begin lines text status s.0 s.1)

pub lenient_any : (begin : State) (region : Option Region) → Weaker (ShowsEndBy Lenient begin region) (ShowsFrom begin)
lenient_any begin region lines text status s = lenient_from begin lines text status (s.0, s.1)

pub lenient_hints : (begin : State) → Weaker (HintsFromBy Lenient begin) (HintsFrom begin)
lenient_hints begin lines hints status s = hinted 1 begin lines hints s

-- ---- the strict rule

-- what the first lines print in an ordinary run
pub first_lines : (number : ℕ) (old : State) (lines : List (List ℕ)) (text : List ℕ) (status : ℕ) (end : State) → ShowsBy Strict number old lines text status end
    → (count : ℕ) × (other : ℕ) × Shows number old (take count lines) text other
first_lines number old [] text status end s = (0, status, (s.0, s.1))
first_lines number old (line ∷ lines) text status end (inl s) =
    let rest = first_lines (number + 1) old lines text status end s.2 in (suc rest.0, rest.1, inl (s.0, s.1, rest.2))
first_lines number old (line ∷ lines) text status end (inr (inl s)) =
    let rest = first_lines (number + 1) s.3 lines s.2 status end s.6 in (suc rest.0, rest.1, inr (inl (s.0, s.1, s.2, s.3, s.4, rest.2, s.7)))
first_lines number old (line ∷ lines) text status end (inr (inr (inl s))) = (1, 2, inr (inr (s.0, s.1, refl)))
first_lines number old (line ∷ lines) text status end (inr (inr (inr s))) =
    (1, status_of end.last, inr (inl (s.0, text, [], end, s.1, (refl, refl), sym (append-nil text))))

-- ---- what was written of a transcript that says less

-- a transcript, whatever region there is at its end
any_region : (rule : Rule) (begin : State) (region : Option Region) → Weaker (ShowsEndBy rule begin region) (ShowsFromBy rule begin)
any_region rule begin region lines text status s = (s.0, s.1)

module _ (first second : List (List ℕ) → List ℕ → ℕ → Type 0) (weaker : Weaker first second) where
  pub all_weaker : (known old new : Option (List ℕ)) (status : ℕ) → WritesAll first known old new status → WritesAll second known old new status
  all_weaker None old new status w = tt
  all_weaker (Some input) old new status w = (w.0, w.1, weaker _ w.0 status w.2)

  short_weaker : (known old new : Option (List ℕ)) → WritesShort first known old new → WritesShort second known old new
  short_weaker None old new w = tt
  short_weaker (Some input) old new w = (w.0, w.1, w.2, w.3, weaker _ w.1 w.2 w.4)

  pub whole_weaker : (known old new : Option (List ℕ)) → WritesWhole first known old new → WritesWhole second known old new
  whole_weaker None old new w = tt
  whole_weaker (Some input) old new w = (w.0, w.1, w.2, w.3, weaker _ w.1 w.2 w.4)

  pub fails_weaker : (e : ScriptError) (known old new : Option (List ℕ)) → FailsScript first e known old new → FailsScript second e known old new
  fails_weaker errors.Read known old new w = whole_weaker known old new w
  fails_weaker errors.Write known old new w = short_weaker known old new w
  fails_weaker errors.Memory known old new w = whole_weaker known old new w

module _ (full here : Option Region → List (List ℕ) → List ℕ → ℕ → Type 0) (any : List (List ℕ) → List ℕ → ℕ → Type 0) (weaker : (region : Option Region) → Weaker (full region) any)
    (known left old now : Option (List ℕ)) (p : (region : Option Region) → KnownProgress (full region) (here region) known left old now) where
  -- an error between two lines
  pub whole_so_far : (region : Option Region) (status : ℕ) → here region [] [] status → WritesWhole any known old now
  whole_so_far region status ended = whole_weaker (full region) any (weaker region) known old now (known_whole (full region) old (here region) now known left status (p region) ended)

  -- an error while a line was answered
  pub short_so_far : (region : Option Region) (after then : Option (List ℕ)) → IfKnown left after (λ input rest. EndsInside (here region) now then input) → WritesShort any known old then
  short_so_far region after then inside = short_weaker (full region) any (weaker region) known old then (known_short (full region) old (here region) now known left after then (p region) inside)

-- the same of a script
module _ (rule : Rule) (begin state : State) (number : ℕ) (known left old now : Option (List ℕ)) (p : (region : Option Region) → KnownProgress (ShowsEndBy rule begin region) (ShowsByFrom rule number state region) known left old now) where
  pub so_far : WritesWhole (ShowsFromBy rule begin) known old now
  so_far = whole_so_far (ShowsEndBy rule begin) (ShowsByFrom rule number state) (ShowsFromBy rule begin) (any_region rule begin) known left old now p state.region (status_of state.last) (state, (refl, refl, refl), refl)

  pub so_far_short : (region : Option Region) (after then : Option (List ℕ)) → IfKnown left after (λ input rest. EndsInside (ShowsByFrom rule number state region) now then input) → WritesShort (ShowsFromBy rule begin) known old then
  so_far_short region after then inside = short_so_far (ShowsEndBy rule begin) (ShowsByFrom rule number state) (ShowsFromBy rule begin) (any_region rule begin) known left old now p region after then inside
