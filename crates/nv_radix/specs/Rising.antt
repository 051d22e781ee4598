-- The order in which a `FileIndex` keeps its pages.
use Rattle.std.specs.Prelude.{ℕ, ◌+◌, ◌<◌, ◌≤◌, [], ◌∷◌}
use Rattle.nv_radix.specs.Pages.{Pages}

-- the pages rise strictly, from `low` on and below `high`
abbrev pub Rises : ℕ → ℕ → Pages → Type 0
Rises low high [] = low ≤ high
Rises low high (x ∷ xs) = (low ≤ x.0) × (x.0 < high) × Rises (x.0 + 1) high xs
