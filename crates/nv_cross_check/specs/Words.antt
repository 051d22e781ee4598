-- How the table of places is stored. No public clause cites this module.
use Rattle.std.specs.Prelude.{ℕ, zero, suc, List, Option, Some, None, map}

-- what a word stands for: 0 for no place, and any other for the place before it
abbrev pub place_in : ℕ → Option ℕ
place_in zero = None
place_in (suc place) = Some place

-- what the words stand for
abbrev pub places_in : List ℕ → List (Option ℕ)
places_in words = map place_in words
