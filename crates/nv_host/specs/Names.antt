-- The names that a directory of the host lists.
use Rattle.std.specs.Prelude.{ℕ, ◌==◌, ◌&&◌, not, Bool, true, false, List, [], ◌∷◌}
use Rattle.std.specs.Ordering.{nat_cmp}
use Rattle.std.specs.Cmp.Lexicographic.{slice_cmp}
use Rattle.std.specs.List.{filter, slice_split}
use Rattle.std.specs.List.Sorted.{IsPermutation, IsSorted}

-- the byte ends a name
abbrev pub ends_name : ℕ → Bool
ends_name b = b == 0

-- the name is neither empty nor `.` nor `..`
abbrev pub is_name : List ℕ → Bool
is_name [] = false
is_name (b ∷ []) = not (b == 46)
is_name (b ∷ c ∷ []) = not ((b == 46) && (c == 46))
is_name (b ∷ c ∷ d ∷ bs) = true

-- the names in a listing, in their order there
abbrev pub names_listed : List ℕ → List (List ℕ)
names_listed listing = filter is_name (slice_split ends_name listing)

-- The names in a listing, rising by bytes.
pub record ListsNames (listing : List ℕ) (names : List (List ℕ)) : Type 0 where
  pub same : IsPermutation (names_listed listing) names
  pub rising : IsSorted (slice_cmp nat_cmp) names
