-- The directories of two trees to which the same paths lead, from one pair on.
use Rattle.std.specs.Prelude.{◌≡◌, ◌≢◌, ℕ, ◌&&◌, ◌==◌, Bool, true, false, nat_le, is_none, if◌then◌else◌, List, [], ◌∷◌, ◌++◌, length, flat_map, Option, Some, None}
use Rattle.nv_super.specs.Order.{Lists}
use Rattle.nv_tree.specs.Tree.{Tree, name_in}
use Rattle.nv_tree.specs.Refusals.{is_directory_at}
use Rattle.nv_folders.specs.Folders.{path_in}
use Rattle.nv_difference.specs.declared.pair.Pair.{Pair}

-- a path, and the number that it leads to in either tree
abbrev pub Both : Type 0
Both = List ℕ × ℕ × ℕ

-- the same of a pair
abbrev pub both_of : Pair → Both
both_of pair = (pair.path.items, pair.a, pair.b)

-- the two numbers, if they are those of directories in use and the path has at most 4,096 bytes
abbrev pub pair_at : Tree → Tree → List ℕ → ℕ → Option ℕ → List Both
pair_at t u path i None = []
pair_at t u path i (Some j) = if is_directory_at t i && is_directory_at u j && nat_le (length path) 4096 then (path, i, j) ∷ [] else []

-- the directories that a name leads to in both trees, where it leads to this in the first
abbrev pub pairs_of : Tree → Tree → Both → List ℕ × ℕ → List Both
pairs_of t u x e = pair_at t u (path_in x.0 e.0) e.1 (name_in u x.2 e.0)

-- those that all names of two directories lead to, rising by the bytes of the names
abbrev pub ArePairsBelow : Tree → Tree → Both → List Both → Type 0
ArePairsBelow t u x below = (listed : List (List ℕ × ℕ)) × Lists (λ (e : List ℕ × ℕ). e.0) (λ e. name_in t x.1 e.0 ≡ Some e.1) listed × (below ≡ flat_map (pairs_of t u x) listed)

-- the directory of the second tree that one of the first was compared with
abbrev pub partner_of : List Both → ℕ → Option ℕ
partner_of [] i = None
partner_of (x ∷ seen) i = if x.1 == i then Some x.2 else partner_of seen i

-- the directory of the first tree that one of the second was compared with
abbrev pub owner_of : List Both → ℕ → Option ℕ
owner_of [] j = None
owner_of (x ∷ seen) j = if x.2 == j then Some x.1 else owner_of seen j

-- neither of the two was compared yet
abbrev pub are_new : List Both → Both → Bool
are_new seen x = is_none (partner_of seen x.1) && is_none (owner_of seen x.2)

-- Which pairs are compared of those that wait, where some were already: a pair with all that its names lead to comes before the one
-- that waits behind it. Each directory is compared once, at its first path; a pair that was compared isn't looked at again, and one
-- of which a directory was compared with another is passed, and stands as such.
pub data AreVisited (t u : Tree) : List Both → List Both → List (Both × Bool) → Type 0 where
  none : {seen : List Both} → AreVisited t u seen [] []
  again : {seen rest : List Both} {visits : List (Both × Bool)} (x : Both) → partner_of seen x.1 ≡ Some x.2 → AreVisited t u seen rest visits → AreVisited t u seen (x ∷ rest) visits
  passed : {seen rest : List Both} {visits : List (Both × Bool)} (x : Both) → partner_of seen x.1 ≢ Some x.2 → are_new seen x ≡ false → AreVisited t u seen rest visits
      → AreVisited t u seen (x ∷ rest) ((x, false) ∷ visits)
  compared : {seen rest : List Both} {visits : List (Both × Bool)} (x : Both) (below : List Both) → are_new seen x ≡ true → ArePairsBelow t u x below
      → AreVisited t u (x ∷ seen) (below ++ rest) visits → AreVisited t u seen (x ∷ rest) ((x, true) ∷ visits)
