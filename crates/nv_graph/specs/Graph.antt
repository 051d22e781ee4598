-- The inodes and names of a file system as a graph, without bytes, logs and slots.
use Rattle.std.specs.Prelude.{◌≡◌, ◌≢◌, ℕ, List, [], ◌∷◌, length, Option, Some}
use Rattle.std.specs.Option.{option_and_then, option_map_or}
use Rattle.nv_super.specs.declared.kind.Kind.{Kind}
use Rattle.nv_super.specs.declared.kind.Kind.TheVariants.{File, Directory}
use Rattle.nv_super.specs.Order.{Lists}

-- what a number in use is
pub record Node : Type 0 where
  pub kind : Kind
  pub links : ℕ

-- the node of each number in use, and what each name of each directory stands for
pub record Graph : Type 0 where
  pub node : ℕ → Option Node
  pub name : ℕ → List ℕ → Option ℕ

-- a node of this kind
abbrev pub IsOfKind : Graph → ℕ → Kind → Type 0
IsOfKind g i kind = (n : Node) × (g.node i ≡ Some n) × (n.kind ≡ kind)

-- a directory and a name of it are ordered by number, then by bytes
abbrev pub pair_key : ℕ × List ℕ → List ℕ
pair_key x = x.0 ∷ x.1

-- the names of a number over all directories, as directory and name, each once
abbrev pub AreNames : Graph → ℕ → List (ℕ × List ℕ) → Type 0
AreNames g i names = Lists pair_key (λ x. g.name x.0 x.1 ≡ Some i) names

-- the number has just so many names
abbrev pub HasNames : Graph → ℕ → ℕ → Type 0
HasNames g i count = (names : List (ℕ × List ℕ)) × AreNames g i names × (length names ≡ count)

-- The root, and what a reached number names.
pub data IsReached (g : Graph) : ℕ → Type 0 where
  root : IsReached g 1
  step : {d i : ℕ} (name : List ℕ) → IsReached g d → g.name d name ≡ Some i → IsReached g i

-- The same by ways that don't pass number i.
pub data IsReachedPast (g : Graph) (i : ℕ) : ℕ → Type 0 where
  root : i ≢ 1 → IsReachedPast g i 1
  step : {d j : ℕ} (name : List ℕ) → IsReachedPast g i d → g.name d name ≡ Some j → j ≢ i → IsReachedPast g i j

-- No fault between inodes.
pub record NoCrossFaults (g : Graph) : Type 0 where
  -- names stand in directories
  pub within : (d : ℕ) (name : List ℕ) (i : ℕ) → g.name d name ≡ Some i → IsOfKind g d Directory
  -- what is named is in use
  pub in_use : (d : ℕ) (name : List ℕ) (i : ℕ) → g.name d name ≡ Some i → (n : Node) × (g.node i ≡ Some n)
  -- each directory but the root is named once
  pub directories : (i : ℕ) → IsOfKind g i Directory → i ≢ 1 → HasNames g i 1
  -- the root isn't named
  pub root_unnamed : HasNames g 1 0
  -- the link count of a file is its number of names
  pub files : (i : ℕ) (n : Node) → g.node i ≡ Some n → n.kind ≡ File → HasNames g i n.links
  -- nothing in use is out of reach
  pub reached : (i : ℕ) (n : Node) → g.node i ≡ Some n → (IsReached g i → ⊥) → ⊥
  -- the root is a directory
  pub root : IsOfKind g 1 Directory

-- the number where a path of names from d ends
abbrev pub walked : Graph → ℕ → List (List ℕ) → Option ℕ
walked g d [] = Some d
walked g d (name ∷ path) = option_and_then (λ j. walked g j path) (g.name d name)

-- the numbers that a path of names from d passes, with d and its end
abbrev pub passed : Graph → ℕ → List (List ℕ) → List ℕ
passed g d [] = d ∷ []
passed g d (name ∷ path) = d ∷ option_map_or (λ j. passed g j path) (g.name d name) []
