-- The tree that callers see: what each inode in use shows, and where paths lead.
use Rattle.std.specs.Prelude.{◌≡◌, ℕ, ◌<◌, Bool, true, false, is_some, if◌then◌else◌, List, [], ◌∷◌, Option, Some, None, Result, Ok, Err}
use Rattle.std.specs.Option.{option_and_then, option_map_or}
use Rattle.nv_super.specs.declared.kind.Kind.{Kind}
use Rattle.nv_super.specs.declared.kind.Kind.TheVariants.{File, Directory}
use Rattle.nv_tree.specs.declared.refusal.Refusal.{Refusal}
use Rattle.nv_tree.specs.declared.refusal.Refusal.TheVariants.{NotFound, NotDirectory}
use Rattle.nv_tree.specs.Path.{last_name}

-- One inode in use. `count` is how many names a directory has; the bytes are those below the size.
pub record Node : Type 0 where
  pub kind : Kind
  pub mode : ℕ
  pub owner : ℕ
  pub group : ℕ
  pub size : ℕ
  pub links : ℕ
  pub time : ℕ
  pub count : ℕ
  pub names : List ℕ → Option ℕ
  pub bytes : ℕ → ℕ

-- number to inode, where it is in use
abbrev pub Tree : Type 0
Tree = ℕ → Option Node

-- Nobody can tell the two apart: bytes past the size aren't seen.
pub record SameNode (a b : Node) : Type 0 where
  pub kind : a.kind ≡ b.kind
  pub mode : a.mode ≡ b.mode
  pub owner : a.owner ≡ b.owner
  pub group : a.group ≡ b.group
  pub size : a.size ≡ b.size
  pub links : a.links ≡ b.links
  pub time : a.time ≡ b.time
  pub count : a.count ≡ b.count
  pub names : (name : List ℕ) → a.names name ≡ b.names name
  pub bytes : (x : ℕ) → x < a.size → a.bytes x ≡ b.bytes x

-- both aren't in use, or nobody can tell them apart
abbrev pub SameNodes : Option Node → Option Node → Type 0
SameNodes None None = Unit {0}
SameNodes (Some a) (Some b) = SameNode a b
SameNodes None (Some b) = ⊥
SameNodes (Some a) None = ⊥

-- inode by inode the same
abbrev pub SameTree : Tree → Tree → Type 0
SameTree t u = (i : ℕ) → SameNodes (t i) (u i)

-- ---- where paths lead

-- whether inodes of this kind have names in them
abbrev pub is_directory : Kind → Bool
is_directory File = false
is_directory Directory = true

-- what a name of directory d stands for
abbrev pub name_in : Tree → ℕ → List ℕ → Option ℕ
name_in t d name = option_and_then (λ (node : Node). node.names name) (t d)

-- the number, where it is a directory in use
abbrev pub as_directory : ℕ → Option Node → Result ℕ Refusal
as_directory i None = Err NotFound
as_directory i (Some node) = if is_directory node.kind then Ok i else Err NotDirectory

-- goes on from where a step led
abbrev pub and_then : Result ℕ Refusal → (ℕ → Result ℕ Refusal) → Result ℕ Refusal
and_then (Err r) next = Err r
and_then (Ok i) next = next i

-- the number that a name stands for
abbrev pub or_not_found : Option ℕ → Result ℕ Refusal
or_not_found None = Err NotFound
or_not_found (Some i) = Ok i

-- The directory in which the last name of a path stands, from directory d on; for the path without names, d. Each
-- number on the way has to be in use, or it is not found, and has to be a directory.
abbrev pub walk : Tree → ℕ → List (List ℕ) → Result ℕ Refusal
walk t d [] = Ok d
walk t d (name ∷ []) = as_directory d (t d)
walk t d (name ∷ next ∷ names) = and_then (as_directory d (t d)) (λ e. and_then (or_not_found (name_in t e name)) (λ i. walk t i (next ∷ names)))

-- the number, where it is in use
abbrev pub in_use : Tree → Option ℕ → Option ℕ
in_use t o = option_and_then (λ i. if is_some (t i) then Some i else None) o

-- what the last name of a path stands for in the directory where a walk ended
abbrev pub last_in : Tree → Result ℕ Refusal → List (List ℕ) → Option ℕ
last_in t (Err r) names = None
last_in t (Ok d) names = name_in t d (last_name names)

-- The inode in use that a path leads to from the root on.
abbrev pub found : Tree → List (List ℕ) → Option ℕ
found t [] = in_use t (Some 1)
found t (name ∷ names) = in_use t (last_in t (walk t 1 (name ∷ names)) (name ∷ names))

-- the numbers that a walk from directory d on passes, with d and the directory of the last name
abbrev pub passed : Tree → ℕ → List (List ℕ) → List ℕ
passed t d [] = []
passed t d (name ∷ []) = d ∷ []
passed t d (name ∷ next ∷ names) = d ∷ option_map_or (λ i. passed t i (next ∷ names)) (name_in t d name) []
