use Rattle.std.proofs.Common.{take, map}
use Rattle.nv_cross_check.specs.Listings.{target}
use Rattle.nv_cross_check.specs.Steps.{Spreads}
use Rattle.nv_cross_check.proofs.walk.spread.Given as goal

abbrev pub invariant-loop-name : goal.invariant-loop-name
invariant-loop-name l = Spreads l.listings l.places (map target (take l.name-index l.names)) l.initial.marks.items l.initial.todo.items l.marks.items l.todo.items
