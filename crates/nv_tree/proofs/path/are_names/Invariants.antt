use Rattle.std.proofs.Common.{ℕ, List, length}
use Rattle.nv_tree.specs.Names.{Spells}
use Rattle.nv_tree.proofs.path.are_names.Given as goal

-- What spells the rest gives what spells the whole, and the other way round.
abbrev pub invariant-loop-rest : goal.invariant-loop-rest
invariant-loop-rest l =
    ((names : List (List ℕ)) → Spells l.rest names → (all : List (List ℕ)) × Spells l.text all)
    × ((all : List (List ℕ)) → Spells l.text all → (names : List (List ℕ)) × Spells l.rest names)

abbrev pub decreases-loop-rest : goal.decreases-loop-rest
decreases-loop-rest l = length l.rest
