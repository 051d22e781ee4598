use Rattle.std.proofs.Common.{◌≡◌, ◌++◌, length}
use Rattle.nv_unpack.specs.Places.{parts_text}
use Rattle.nv_unpack.proofs.places.push_parts.Given as goal

abbrev pub invariant-loop-at : goal.invariant-loop-at
invariant-loop-at l = l.text.items ++ parts_text l.left ≡ l.initial.text.items ++ parts_text l.path

abbrev pub decreases-loop-at : goal.decreases-loop-at
decreases-loop-at l = length l.left
