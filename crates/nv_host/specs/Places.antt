-- Paths of what stands in a tree of the host.
use Rattle.std.specs.Prelude.{ℕ, ◌-◌, ◌==◌, ◌&&◌, nat_lt, Bool, if◌then◌else◌, List, [], ◌∷◌, ◌++◌, length, slice_index}

-- the path ends with a slash
abbrev pub ends_with_slash : List ℕ → Bool
ends_with_slash path = nat_lt 0 (length path) && (slice_index path (length path - 1) == 47)

-- the path with a slash at its end
abbrev pub with_slash : List ℕ → List ℕ
with_slash path = if ends_with_slash path then path else path ++ 47 ∷ []
