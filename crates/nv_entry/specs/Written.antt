-- What storing words in a row leaves.
use Rattle.std.specs.Prelude.{◌≡◌, ℕ, ◌+◌, ◌*◌, ◌<◌, List, length, slice_index}
use Rattle.nv_region.specs.Region.{Region, word}

-- these words stand in a row from a place on
abbrev pub HoldsWords : Region → ℕ → List ℕ → Type 0
HoldsWords region at words = (k : ℕ) → k < length words → word region (at + 8 * k) ≡ slice_index words k
