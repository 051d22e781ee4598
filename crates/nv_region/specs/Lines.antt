-- Words in a row that are stored in turn, as those of a line.
use Rattle.std.specs.Prelude.{◌≡◌, ◌<◌, ◌+◌, ◌*◌, ℕ, zero, suc, List, get_or}
use Rattle.nv_region.specs.Region.{Region, put}
use Rattle.nv_region.specs.Stops.{Choices, Adds, One}

-- the region with the first so many of the words, from this address on
abbrev pub put_words : Region → ℕ → List ℕ → ℕ → Region
put_words R at words zero = R
put_words R at words (suc n) = put (put_words R at words n) (at + 8 * n) (get_or words n 0)

-- one of the first so many words, at its address
abbrev pub Each : ℕ → List ℕ → ℕ → Choices
Each at words n i x = (k : ℕ) × (k < n) × One (at + 8 * k) (get_or words k 0) i x

-- from one moment to another the first n of the words were stored in turn, and nothing else
pub record FirstStored (at : ℕ) (words : List ℕ) (n : ℕ) (R R' : Region) (old new : Choices) : Type 0 where
  pub reads : R' ≡ put_words R at words n
  pub adds : Adds (Each at words n) old new

-- some of the first words were stored in turn, and not all of so many
abbrev pub StoppedAmong : ℕ → List ℕ → ℕ → Region → Region → Choices → Choices → Type 0
StoppedAmong at words count R R' old new = (n : ℕ) × (n < count) × FirstStored at words n R R' old new
