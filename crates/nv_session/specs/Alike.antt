-- States of the machine that nobody can tell apart, but by words that no definition reads.
use Rattle.std.specs.Prelude.{◌≡◌, ◌⊎◌, Bool, true, false, ⊤, Option, Some, None}
use Rattle.nv_region.specs.Region.{Region}
use Rattle.nv_journal.specs.Undo.{undone}
use Rattle.nv_outcome.specs.Outcome.{Outcome, IsOutcome}
use Rattle.nv_line.specs.Request.{Request, Poke, Cut, Peek}
use Rattle.nv_calls.specs.Alike.{AreAlike}
use Rattle.nv_session.specs.Machine.{State}

-- In both there is no region, or in both there is one and the same, or there are two that are alike.
abbrev pub SeemSame : Option Region → Option Region → Type 0
SeemSame None None = ⊤
SeemSame None (Some S) = ⊥
SeemSame (Some R) None = ⊥
SeemSame (Some R) (Some S) = (R ≡ S) ⊎ AreAlike R S

-- The region that there is is what a recovery leaves of the mounted one, which rolls back its journals.
abbrev pub IsLeftOf : Option Region → Option Region → Type 0
IsLeftOf None region = ⊤
IsLeftOf (Some R) None = ⊥
IsLeftOf (Some R) (Some S) = (o : Outcome) → IsOutcome R o → S ≡ undone o.sup R

-- Two states are alike: their regions seem the same, and all else is the same. In each the region that there is is what a
-- recovery leaves of what is mounted.
pub record AlikeStates (a b : State) : Type 0 where
  pub region : SeemSame a.region b.region
  pub mounted : SeemSame a.mounted b.mounted
  pub time : a.time ≡ b.time
  pub last : a.last ≡ b.last
  pub armed : a.armed ≡ b.armed
  pub first_left : IsLeftOf a.mounted a.region
  pub second_left : IsLeftOf b.mounted b.region

-- whether the command shows a word by its address, or changes the region so that words show that no definition reads
abbrev pub handles_words : Request → Bool
handles_words (Poke at value) = true
handles_words (Cut length) = true
handles_words (Peek at) = true
handles_words _ = false
