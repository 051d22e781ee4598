use Rattle.std.proofs.Common.{◌≡◌, take, map}
use Rattle.nv_metadata.specs.Places.{behind_parts}
use Rattle.nv_metadata.proofs.places.behind_parts.Given as goal

abbrev pub invariant-loop-place : goal.invariant-loop-place
invariant-loop-place l = l.behind.items ≡ map (behind_parts l.before) (take l.place-index l.places)
