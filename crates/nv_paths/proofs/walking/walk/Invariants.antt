use Rattle.std.proofs.Common.{◌≡◌, ◌<◌, ℕ, List, length}
use Rattle.nv_region.specs.Region.{Region}
use Rattle.nv_tree.specs.Path.{last_name}
use Rattle.nv_tree.specs.Names.{Spells}
use Rattle.nv_tree.specs.Tree.{walk}
use Rattle.nv_paths.specs.Seen.{tree_of}
use Rattle.nv_paths.proofs.walking.walk.Given as goal

-- The rest of the path leads from the directory on to where the whole leads.
abbrev pub invariant-loop-row : goal.invariant-loop-row
invariant-loop-row l = (0 < length l.rest) × ((names : List (List ℕ)) → Spells l.path names → (left : List (List ℕ)) × Spells l.rest left × (last_name names ≡ last_name left)
    × ((region : Region) → walk (tree_of region l.rows.items) 1 names ≡ walk (tree_of region l.rows.items) l.directory left))

abbrev pub decreases-loop-row : goal.decreases-loop-row
decreases-loop-row l = length l.rest
