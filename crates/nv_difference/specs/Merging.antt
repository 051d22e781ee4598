-- The names of two lists as one.
use Rattle.std.specs.Prelude.{◌≡◌, ◌⊎◌, ℕ, if◌then◌else◌, nat_eq, List, [], ◌∷◌, ◌++◌, map}
use Rattle.std.specs.Ordering.{nat_cmp}
use Rattle.std.specs.declared.cmp.Ordering.TheVariants.{Less}
use Rattle.std.specs.Cmp.Lexicographic.{pointwise, slice_cmp}
use Rattle.std.specs.List.{Contains}
use Rattle.nv_super.specs.Order.{Lists, Rises}
use Rattle.nv_names.specs.declared.named.Named.{Named}
use Rattle.nv_difference.specs.Names.{by_bytes, name_bytes}

-- the names of both lists, each once and rising by bytes
abbrev pub AreMerged : List (List ℕ) → List (List ℕ) → List (List ℕ) → Type 0
AreMerged a b names = Lists by_bytes (λ name. Contains a name ⊎ Contains b name) names

-- both lists are empty
abbrev pub AreNone : List Named → List Named → Type 0
AreNone left right = (left ≡ []) × (right ≡ [])

-- a name isn't behind the first of a list
abbrev pub IsUpTo : List ℕ → List Named → Type 0
IsUpTo name [] = Unit {0}
IsUpTo name (x ∷ xs) = (name ≡ name_bytes x) ⊎ (slice_cmp nat_cmp name (name_bytes x) ≡ Less)

-- the name is that of the first of a list
abbrev pub IsFirst : List Named → List ℕ → Type 0
IsFirst [] name = ⊥
IsFirst (x ∷ xs) name = name_bytes x ≡ name

-- The name is the first of one of the lists, and isn't behind the first of either.
pub record IsLeast (left right : List Named) (least : Named) : Type 0 where
  pub among : IsFirst left (name_bytes least) ⊎ IsFirst right (name_bytes least)
  pub first : IsUpTo (name_bytes least) left
  pub second : IsUpTo (name_bytes least) right

-- a list without a name that stands first
abbrev pub behind : List Named → List ℕ → List Named
behind [] name = []
behind (x ∷ xs) name = if pointwise nat_eq (name_bytes x) name then xs else x ∷ xs

-- What is merged of the names that are left stands behind those that are merged already.
pub record IsMerging (a b left right done : List Named) : Type 0 where
  pub first : Rises by_bytes (map name_bytes left)
  pub second : Rises by_bytes (map name_bytes right)
  pub goes : (rest : List (List ℕ)) → AreMerged (map name_bytes left) (map name_bytes right) rest → AreMerged (map name_bytes a) (map name_bytes b) (map name_bytes done ++ rest)
