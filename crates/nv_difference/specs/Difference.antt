-- What differs between two trees.
use Rattle.std.specs.Prelude.{◌≡◌, ℕ, Bool, List, [], ◌++◌, Some}
use Rattle.nv_tree.specs.Tree.{Tree}
use Rattle.nv_difference.specs.Inodes.{IsInodeText}
use Rattle.nv_difference.specs.Names.{IsVisitText}
use Rattle.nv_difference.specs.Pairs.{AreVisited, Both, pair_at}
use Rattle.nv_difference.specs.Texts.{AreTexts}

-- the pairs of directories from the roots on
abbrev pub AreAllVisited : Tree → Tree → List (Both × Bool) → Type 0
AreAllVisited t u visits = AreVisited t u [] (pair_at t u [] 1 (Some 1)) visits

-- What is told of the roots, and then of the names of each pair of directories, in the order of a list of all names: those of a
-- directory rise by bytes, and what lies below it follows them.
abbrev pub IsDifference : Tree → Tree → List ℕ → Type 0
IsDifference t u text = (roots : List ℕ) × (visits : List (Both × Bool)) × (names : List ℕ) × IsInodeText [] (t 1) (u 1) roots × AreAllVisited t u visits × AreTexts (IsVisitText t u) visits names
    × (text ≡ roots ++ names)
