-- The events that a schedule chooses, and the workers' ends.
use Rattle.std.specs.Prelude.{◌≡◌, ℕ, ◌<◌, nat_le, nat_lt, List, [], ◌∷◌, ◌++◌, Bool, true, false, not, ◌&&◌, if◌then◌else◌, Option, Some, None, suc, zero, length, map, drop, replicate, position}
use Rattle.std.specs.List.{All}
use Rattle.std.specs.Global.{Vec}
use Rattle.nv_super.specs.declared.owners.Owner.{Owner}
use Rattle.nv_claimcore.specs.declared.view.Sizes.{Sizes}
use Rattle.nv_claimcore.specs.declared.view.Record.{Record}
use Rattle.nv_claimcore.specs.declared.view.View.{View}
use Rattle.nv_claimcore.specs.declared.event.Event.{Event}
use Rattle.nv_claimcore.specs.declared.event.Event.TheVariants.{Draw, Claim, Mark}
use Rattle.nv_claimcore.specs.declared.refusal.CoreRefusal.{CoreRefusal}
use Rattle.nv_claimcore.specs.declared.refusal.CoreRefusal.TheVariants.{NotAllowed, Memory}
use Rattle.nv_claimcore.specs.Claims.{State, past}
use Rattle.nv_claimcore.specs.Events.{view_of, start, all_allowed, after_all}
use Rattle.nv_claimcore.specs.Finished.{pairs_of}

-- the blocks of the lost claims that are not marked yet, the oldest first
abbrev pub unmarked_blocks : List Record → List ℕ
unmarked_blocks [] = []
unmarked_blocks (r ∷ rs) = if not r.won && not r.marked then r.block ∷ unmarked_blocks rs else unmarked_blocks rs

-- The claims of a worker's tickets that it has not made yet, in order.
-- A worker draws only where none is left, so they are all of its last ticket.
abbrev pub claims_left : List (List (ℕ × Owner)) → View → List (ℕ × Owner)
claims_left work v = drop (length v.records) (pairs_of work v.numbers)

-- The one event, or none, that a worker does next: it marks its oldest lost claim that is not marked;
-- or else it makes the next claim that is left; or else it draws, unless it has drawn past the end.
abbrev pub next_event : ℕ → List ℕ → List (ℕ × Owner) → Bool → List Event
next_event w (b ∷ bs) ps ended = Mark w b ∷ []
next_event w [] (p ∷ ps) ended = Claim w p.0 p.1 ∷ []
next_event w [] [] true = []
next_event w [] [] false = Draw w ∷ []

-- a worker's turn in a state
abbrev pub turn : List (List (ℕ × Owner)) → State → ℕ → List Event
turn work s w = next_event w (unmarked_blocks (view_of s w).records) (claims_left work (view_of s w)) (nat_lt 0 (past (length work) (view_of s w).numbers))

-- the events of a schedule: each of its numbers gives that worker one turn
abbrev pub chosen : List (List (ℕ × Owner)) → State → List ℕ → List Event
chosen work s [] = []
chosen work s (w ∷ ws) = turn work s w ++ chosen work (after_all s (turn work s w)) ws

-- The events of one worker alone that takes turns until it has none.
pub record RunsToEnd (work : List (List (ℕ × Owner))) (s : State) (w : ℕ) (events : List Event) : Type 0 where
  pub turns : ℕ
  pub own : events ≡ chosen work s (replicate turns w)
  pub ended : turn work (after_all s events) w ≡ []

-- the workers below n run to their ends, one after the other in rising order
abbrev pub RunInOrder : List (List (ℕ × Owner)) → State → ℕ → List Event → Type 0
RunInOrder work s zero events = events ≡ []
RunInOrder work s (suc n) events = (before : List Event) × (own : List Event) × (events ≡ before ++ own) × RunInOrder work s n before × RunsToEnd work (after_all s before) n own

-- ---- what a replay takes

-- the lists of pairs that the work's tickets have
abbrev pub lists : List (Vec (ℕ × Owner)) → List (List (ℕ × Owner))
lists work = map (λ v. v.items) work

-- each block of the work is one of the blocks
abbrev pub Inside : ℕ → List (List (ℕ × Owner)) → Type 0
Inside blocks work = All (λ ps. All (λ p. p.0 < blocks) ps) work

-- the place of the first number that names no worker
abbrev pub first_stranger : ℕ → List ℕ → Option ℕ
first_stranger workers schedule = position (λ w. nat_le workers w) schedule

-- ---- what a replay answers

-- Every number of the schedule names a worker, and the state is the one after the events of the schedule, followed by
-- those of the workers that run to their ends. All these events are allowed.
pub record Replayed (z : Sizes) (work : List (List (ℕ × Owner))) (schedule : List ℕ) (s : State) : Type 0 where
  pub named : first_stranger z.workers schedule ≡ None
  pub ends : List Event
  pub in_order : RunInOrder work (after_all (start z) (chosen work (start z) schedule)) z.workers ends
  pub allowed : all_allowed z (start z) (chosen work (start z) schedule ++ ends) ≡ true
  pub state : s ≡ after_all (start z) (chosen work (start z) schedule ++ ends)

-- a place is refused where it is the first that names no worker, and memory only where every number names one
abbrev pub RefusesSchedule : ℕ → List ℕ → CoreRefusal → Type 0
RefusesSchedule workers schedule (NotAllowed k) = first_stranger workers schedule ≡ Some k
RefusesSchedule workers schedule Memory = first_stranger workers schedule ≡ None
