use Rattle.std.proofs.Common.{◌≡◌, ◌<◌, ℕ, List, length}
use Rattle.nv_tree.specs.Path.{last_name}
use Rattle.nv_tree.specs.Names.{Spells}
use Rattle.nv_archive.proofs.chosen.last_name.Given as goal

-- The rest of the path ends in the same name.
abbrev pub invariant-loop-others : goal.invariant-loop-others
invariant-loop-others l = (0 < length l.rest) × ((names : List (List ℕ)) → Spells l.path names → (left : List (List ℕ)) × Spells l.rest left × (last_name names ≡ last_name left))

abbrev pub decreases-loop-others : goal.decreases-loop-others
decreases-loop-others l = length l.rest
