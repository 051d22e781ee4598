-- What the steps of a replay under way leave.
use Rattle.std.specs.Prelude.{◌≡◌, ℕ, ◌<◌, List, [], Bool, true, false}
use Rattle.nv_super.specs.declared.owners.Owner.{Owner}
use Rattle.nv_claimcore.specs.declared.event.Event.{Event}
use Rattle.nv_claimcore.specs.declared.schedule.Progress.{Progress}
use Rattle.nv_claimcore.specs.Events.{all_allowed, after_all}
use Rattle.nv_claimcore.specs.Replay.{turn, chosen, RunInOrder, RunsToEnd}
use Rattle.nv_claimcore.specs.Pace.{Running, pace_of, effort}

-- the sizes stay, and the replay is under way
pub record GoesOn (work : List (List (ℕ × Owner))) (old new : Progress) : Type 0 where
  pub sizes : new.sizes ≡ old.sizes
  pub running : Running new.sizes work new.state new.paces.items

-- One worker took its turn, or had none.
pub record TookTurn (work : List (List (ℕ × Owner))) (w : ℕ) (old new : Progress) (took : Bool) : Type 0 where
  pub goes_on : GoesOn work old new
  pub allowed : all_allowed old.sizes old.state (turn work old.state w) ≡ true
  pub state : new.state ≡ after_all old.state (turn work old.state w)
  pub none : took ≡ false → turn work old.state w ≡ []
  pub less : took ≡ true → effort work new.state.cursor (pace_of new.paces.items w) < effort work old.state.cursor (pace_of old.paces.items w)

-- The turns of a schedule were taken.
pub record TookTurns (work : List (List (ℕ × Owner))) (schedule : List ℕ) (old new : Progress) : Type 0 where
  pub goes_on : GoesOn work old new
  pub allowed : all_allowed old.sizes old.state (chosen work old.state schedule) ≡ true
  pub state : new.state ≡ after_all old.state (chosen work old.state schedule)

-- One worker ran to its end.
pub record RanToEnd (work : List (List (ℕ × Owner))) (w : ℕ) (old new : Progress) : Type 0 where
  pub goes_on : GoesOn work old new
  pub events : List Event
  pub own : RunsToEnd work old.state w events
  pub allowed : all_allowed old.sizes old.state events ≡ true
  pub state : new.state ≡ after_all old.state events
  pub others : (k : ℕ) → k < old.sizes.workers → turn work old.state k ≡ [] → turn work new.state k ≡ []

-- The workers below n ran to their ends in rising order.
pub record RanInOrder (work : List (List (ℕ × Owner))) (n : ℕ) (old new : Progress) : Type 0 where
  pub goes_on : GoesOn work old new
  pub events : List Event
  pub in_order : RunInOrder work old.state n events
  pub allowed : all_allowed old.sizes old.state events ≡ true
  pub state : new.state ≡ after_all old.state events
  pub ended : (k : ℕ) → k < n → turn work new.state k ≡ []
