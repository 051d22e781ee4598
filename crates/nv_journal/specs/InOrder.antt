-- In which order words are stored.
use Rattle.std.specs.Prelude.{◌≡◌, ◌⊎◌, ℕ}
use Rattle.nv_region.specs.Region.{Region, word}

-- Of the words at two addresses the first is stored first: the second is as it was, or the first has its new value.
abbrev pub FirstIsFirst : Region → ℕ → ℕ → ℕ → Region → Type 0
FirstIsFirst old first value second new = (word new second ≡ word old second) ⊎ (word new first ≡ value)

-- Of three words, each with its new value, the first is stored before the second, and that before the third.
abbrev pub ThreeInOrder : Region → ℕ × ℕ → ℕ × ℕ → ℕ × ℕ → Region → Type 0
ThreeInOrder old first second third new = FirstIsFirst old first.0 first.1 second.0 new × FirstIsFirst old second.0 second.1 third.0 new
