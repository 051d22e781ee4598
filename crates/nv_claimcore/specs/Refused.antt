-- What a refusal says.
use Rattle.std.specs.Prelude.{◌≡◌, ◌+◌, ◌<◌, List, true, false, length, take}
use Rattle.nv_claimcore.specs.declared.view.Sizes.{Sizes}
use Rattle.nv_claimcore.specs.declared.event.Event.{Event}
use Rattle.nv_claimcore.specs.declared.refusal.CoreRefusal.{CoreRefusal}
use Rattle.nv_claimcore.specs.declared.refusal.CoreRefusal.TheVariants.{NotAllowed, Memory}
use Rattle.nv_claimcore.specs.Claims.{State}
use Rattle.nv_claimcore.specs.Events.{start, all_allowed}

-- a place is refused where the events before it are allowed and the one at it is not; of memory nothing is said
abbrev pub Refuses : Sizes → List Event → CoreRefusal → Type 0
Refuses z es (NotAllowed k) = (k < length es) × (all_allowed z (start z) (take k es) ≡ true) × (all_allowed z (start z) (take (k + 1) es) ≡ false)
Refuses z es Memory = Unit {0}

-- the same of events that begin in the state s
abbrev pub RefusesFrom : Sizes → State → List Event → CoreRefusal → Type 0
RefusesFrom z s es (NotAllowed k) = (k < length es) × (all_allowed z s (take k es) ≡ true) × (all_allowed z s (take (k + 1) es) ≡ false)
RefusesFrom z s es Memory = Unit {0}
