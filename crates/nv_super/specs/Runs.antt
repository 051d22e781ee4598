-- Blocks as runs of neighbours.
use Rattle.std.specs.Prelude.{ℕ, ◌+◌, ◌<◌, ◌≤◌, List, [], ◌∷◌}
use Rattle.std.specs.List.{Contains}
use Rattle.nv_super.specs.declared.owners.Run.{Run}

-- the block is one of the run's
abbrev pub InRun : Run → ℕ → Type 0
InRun r b = (r.start ≤ b) × (b < r.start + r.count)

-- runs that rise, none of them empty, and of which none touches another
abbrev pub Apart : List Run → Type 0
Apart [] = Unit {0}
Apart (x ∷ []) = 0 < x.count
Apart (x ∷ y ∷ xs) = (0 < x.count) × (x.start + x.count < y.start) × Apart (y ∷ xs)

-- the rising runs, none touching another, of just the blocks of which P holds
pub record AreRuns (P : ℕ → Type 0) (runs : List Run) : Type 0 where
  pub apart : Apart runs
  pub each : (x : Run) (b : ℕ) → Contains runs x → x.start ≤ b → b < x.start + x.count → P b
  pub all : (b : ℕ) → P b → (x : Run) × Contains runs x × (x.start ≤ b) × (b < x.start + x.count)
