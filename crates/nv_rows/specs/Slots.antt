-- How the rows stand in the slots of a table by number. No public clause cites this module.
use Rattle.std.specs.Prelude.{◌≡◌, ℕ, ◌+◌, List, [], ◌∷◌, Option, Some, None, slice_index_or}
use Rattle.nv_scan.specs.declared.piece.Row.{Row}

-- the rows in these slots, in the same order
abbrev pub rows_in : List (Option Row) → List Row
rows_in [] = []
rows_in (None ∷ rest) = rows_in rest
rows_in (Some row ∷ rest) = row ∷ rows_in rest

-- each row stands in the slot of its number, where the first slot is that of `first`
abbrev pub StandByNumber : ℕ → List (Option Row) → Type 0
StandByNumber first slots = (k : ℕ) (row : Row) → slice_index_or slots k None ≡ Some row → row.inode ≡ first + k
