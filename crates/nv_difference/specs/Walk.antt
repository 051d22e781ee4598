-- What is known on the way through two trees. No public clause cites this module.
use Rattle.std.specs.Prelude.{◌≡◌, ℕ, Bool, true, if◌then◌else◌, List, [], ◌∷◌, ◌++◌, map, reverse, Option}
use Rattle.std.specs.List.{Contains}
use Rattle.nv_tree.specs.Tree.{Tree}
use Rattle.nv_tree.specs.Refusals.{is_directory_at}
use Rattle.nv_difference.specs.Pairs.{AreVisited, Both, both_of, owner_of, partner_of}
use Rattle.nv_difference.specs.declared.pair.Pair.{Pair}
use Rattle.nv_difference.specs.declared.pair.Visit.{Visit}

-- a pair that was looked at, and whether it was compared
abbrev pub visit_of : Visit → Both × Bool
visit_of visit = (both_of visit.pair, visit.compared)

-- what waits on a stack, its top first
abbrev pub waiting : List Pair → List Both
waiting pending = reverse (map both_of pending)

-- the pairs among these that were compared
abbrev pub compared_in : List (Both × Bool) → List Both
compared_in [] = []
compared_in (v ∷ visits) = if v.1 then v.0 ∷ compared_in visits else compared_in visits

-- the pairs that were compared so far, the last one first
abbrev pub seen_in : List Visit → List Both
seen_in visits = compared_in (reverse (map visit_of visits))

-- what a directory of one tree was compared with, by its number
abbrev pub Known : Type 0
Known = ℕ → Option ℕ

-- The tables tell of each directory what it was compared with.
pub record AreTables (seen : List Both) (partners owners : Known) : Type 0 where
  pub partner : (i : ℕ) → partners i ≡ partner_of seen i
  pub owner : (j : ℕ) → owners j ≡ owner_of seen j

-- all that waits are directories
abbrev pub AreDirectories : Tree → Tree → List Both → Type 0
AreDirectories t u pending = (x : Both) → Contains pending x → (is_directory_at t x.1 ≡ true) × (is_directory_at u x.2 ≡ true)

-- The tables are right, and all that waits are directories.
pub record IsReady (t u : Tree) (visits : List Visit) (pending : List Pair) (partners owners : Known) : Type 0 where
  pub tables : AreTables (seen_in visits) partners owners
  pub directories : AreDirectories t u (waiting pending)

-- From one state to a later one some pairs were visited, and what the later one leads to stands behind them.
pub record LeadsOn (t u : Tree) (old new : List Visit) (pending left : List Pair) : Type 0 where
  pub found : List (Both × Bool)
  pub adds : map visit_of new ≡ map visit_of old ++ found
  pub goes : (rest : List (Both × Bool)) → AreVisited t u (seen_in new) (waiting left) rest → AreVisited t u (seen_in old) (waiting pending) (found ++ rest)

-- the two are directories
abbrev pub IsVisitable : Tree → Tree → Both × Bool → Type 0
IsVisitable t u v = (is_directory_at t v.0.1 ≡ true) × (is_directory_at u v.0.2 ≡ true)

-- the same of each
abbrev pub AreVisitable : Tree → Tree → List (Both × Bool) → Type 0
AreVisitable t u visits = (v : Both × Bool) → Contains visits v → IsVisitable t u v
