-- What a contract sees of a name index.
use Rattle.std.specs.Prelude.{◌≡◌, ℕ, ◌<◌, ◌≤◌, nat_eq, if◌then◌else◌, List, [], ◌∷◌, length, map, All, Contains, Option, Some, None, IsSome}
use Rattle.std.specs.Ordering.{nat_cmp}
use Rattle.std.specs.Cmp.Lexicographic.{pointwise, slice_cmp}
use Rattle.std.specs.List.{IsDistinct}
use Rattle.std.specs.List.Sorted.{IsStrictlySortedBy}
use Rattle.nv_names.specs.declared.target.Target.{Target}
use Rattle.nv_names.specs.declared.named.Named.{Named}

-- the names, each with its inode and the place of its entry, and how many calls of `add` take no memory
pub record Names : Type 0 where
  pub names : List (List ℕ × ℕ × ℕ)
  pub room : ℕ

-- the inode and the place of the first entry that has a name
abbrev pub found_in : List (List ℕ × ℕ × ℕ) → List ℕ → Option (ℕ × ℕ)
found_in [] name = None
found_in (e ∷ es) name = if pointwise nat_eq name e.0 then Some (e.1, e.2) else found_in es name

-- the inode and the place of a name
abbrev pub name_at : Names → List ℕ → Option (ℕ × ℕ)
name_at index name = found_in index.names name

-- a target as the pair that `name_at` gives
abbrev pub inode_and_place : Target → ℕ × ℕ
inode_and_place t = (t.inode, t.place)

-- a name has 1 to 255 bytes
pub record IsName (name : List ℕ) : Type 0 where
  pub some : 0 < length name
  pub short : length name ≤ 255

-- a line of a listing as one of `Names`
abbrev pub line_of : Named → List ℕ × ℕ × ℕ
line_of n = (n.name.now, n.inode, n.place)

-- the names alone
abbrev pub names_of : List (List ℕ × ℕ × ℕ) → List (List ℕ)
names_of es = map (λ e. e.0) es

-- no name is there twice
abbrev pub EachOnce : Names → Type 0
EachOnce index = IsDistinct (pointwise nat_eq) (names_of index.names)

-- the names of an index, each once and rising by bytes, with its inode and place
pub record ListsNames (index : Names) (listed : List (List ℕ × ℕ × ℕ)) : Type 0 where
  pub rising : IsStrictlySortedBy (slice_cmp nat_cmp) (names_of listed)
  pub each : All (λ e. name_at index e.0 ≡ Some (e.1, e.2)) listed
  pub all : (q : List ℕ) → IsSome (name_at index q) → Contains (names_of listed) q

-- the names of an index, each once, in whatever order, with its inode and place
pub record HasNames (index : Names) (listed : List (List ℕ × ℕ × ℕ)) : Type 0 where
  pub once : IsDistinct (pointwise nat_eq) (names_of listed)
  pub each : All (λ e. name_at index e.0 ≡ Some (e.1, e.2)) listed
  pub all : (q : List ℕ) → IsSome (name_at index q) → Contains (names_of listed) q
