use Rattle.std.proofs.Common.{◌≡◌, ◌<◌, ℕ, List, length, eqb}
use Rattle.std.specs.List.{list_any}
use Rattle.nv_region.specs.Region.{Region}
use Rattle.nv_tree.specs.Names.{Spells}
use Rattle.nv_tree.specs.Tree.{passed}
use Rattle.nv_paths.specs.Seen.{tree_of}
use Rattle.nv_paths.proofs.passing.passes.Given as goal

-- The whole way passes the inode where the rest of it does, from the directory on.
abbrev pub invariant-loop-directory : goal.invariant-loop-directory
invariant-loop-directory l = (0 < length l.rest) × ((names : List (List ℕ)) → Spells l.path names → (left : List (List ℕ)) × Spells l.rest left
    × ((region : Region) → list_any (eqb l.inode) (passed (tree_of region l.rows.items) 1 names) ≡ list_any (eqb l.inode) (passed (tree_of region l.rows.items) l.directory left)))

abbrev pub decreases-loop-directory : goal.decreases-loop-directory
decreases-loop-directory l = length l.rest
