use Rattle.std.proofs.Common.{◌≡◌, ◌++◌, length, map}
use Rattle.nv_host.specs.Names.{names_listed}
use Rattle.nv_host.proofs.names.push_names.Given as goal

abbrev pub invariant-loop-at : goal.invariant-loop-at
invariant-loop-at l = map (λ name. name.now) l.names.items ++ names_listed l.left ≡ map (λ name. name.now) l.initial.names.items ++ names_listed l.listing

abbrev pub decreases-loop-at : goal.decreases-loop-at
decreases-loop-at l = length l.left
