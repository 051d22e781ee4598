-- The places of blocks, as numbers lead to them.
use Rattle.std.specs.Prelude.{◌≡◌, ◌<◌, ◌+◌, ◌-◌, ◌^◌, ◌&&◌, ℕ, if◌then◌else◌, List, get_or, length, map, min, nat_le, nat_lt}
use Rattle.nv_metadata.specs.declared.places.Place.{Place}
use Rattle.nv_metadata.specs.declared.places.Places.TheInside.{Inside}

-- the place of a block of which nothing is held
abbrev pub nowhere : Place
nowhere = record { part = 0; start = 0; count = 0; known = 0 }

-- the place with a number
abbrev pub numbered : List Place → ℕ → Place
numbered places n = get_or places n nowhere

-- and those of blocks with these numbers
abbrev pub table : List ℕ → List Place → List Place
table numbers places = map (numbered places) numbers

-- Number 0 is that of a place where nothing is held, and each block has the number of a place.
pub record AreNumbered (t : Inside) : Type 0 where
  pub some : 0 < length t.places.items
  pub first : numbered t.places.items 0 ≡ nowhere
  pub each : (b : ℕ) → get_or t.numbers.items b 0 < length t.places.items

-- the place whose part stands behind so many
abbrev pub behind_parts : ℕ → Place → Place
behind_parts before p = record p { part = min (before + p.part) (2 ^ 32 - 1) }

-- Of two places of a block from one on that of which more is held: the other one's part stands behind so many parts here. A block
-- before keeps its place.
abbrev pub taken : ℕ → ℕ → ℕ → Place → Place → Place
taken from before b here there = if nat_le from b && nat_lt here.known there.known then record there { part = before + there.part } else here

-- Of two numbers of a block from one on that by whose place more is held: the other one's places begin at a number here.
abbrev pub taken_number : ℕ → ℕ → ℕ → List Place → List Place → ℕ → ℕ → ℕ
taken_number from base b here there n other = if nat_le from b && nat_lt (numbered here n).known (numbered there other).known then base + other else n
