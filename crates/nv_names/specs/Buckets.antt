-- Buckets of names: one, or many among which a name's key chooses.
use Rattle.std.specs.Prelude.{◌≡◌, ℕ, ◌+◌, ◌/◌, ◌%◌, ◌<◌, ◌^◌, ◌++◌, nat_eq, List, [], ◌∷◌, length, flat_map, IsSome}
use Rattle.std.specs.Cmp.Lexicographic.{pointwise}
use Rattle.std.specs.List.{IsDistinct}
use Rattle.nv_names.specs.Keys.{key_of}
use Rattle.nv_names.specs.Names.{found_in, names_of}

-- the place of a key's bucket among so many; names that differ in their last two bytes alone have one place, mostly
abbrev pub place_of : ℕ → ℕ → ℕ
place_of key buckets = key / 65536 % buckets

-- the names of many buckets, those of one bucket after those of another
abbrev pub all_lines : List (List (List ℕ × ℕ × ℕ)) → List (List ℕ × ℕ × ℕ)
all_lines buckets = flat_map (λ bucket. bucket) buckets

-- no name is twice in a bucket, and each that it has is of its place, where `at` tells the place of a name
pub record StandsAt (at : List ℕ → ℕ) (place : ℕ) (bucket : List (List ℕ × ℕ × ℕ)) : Type 0 where
  pub once : IsDistinct (pointwise nat_eq) (names_of bucket)
  pub placed : (q : List ℕ) → IsSome (found_in bucket q) → at q ≡ place

-- the first of some buckets stands at a place, and each of the others at the one after that of the bucket before it
abbrev pub StandFrom : (List ℕ → ℕ) → ℕ → List (List (List ℕ × ℕ × ℕ)) → Type 0
StandFrom at place [] = Unit {0}
StandFrom at place (t ∷ ts) = StandsAt at place t × StandFrom at (place + 1) ts

-- each name stands in the bucket of its key's place, and there once
abbrev pub AreMany : List (List (List ℕ × ℕ × ℕ)) → Type 0
AreMany buckets = StandFrom (λ name. place_of (key_of name) (length buckets)) 0 buckets

-- no name is twice in the one bucket; each name of the many stands in its bucket; and where there are many, the one has no name
pub record AreBuckets (one : List (List ℕ × ℕ × ℕ)) (many : List (List (List ℕ × ℕ × ℕ))) : Type 0 where
  pub once : IsDistinct (pointwise nat_eq) (names_of one)
  pub each : AreMany many
  pub alone : 0 < length many → one ≡ []

-- the names of the one bucket and of the many
abbrev pub lines_in : List (List ℕ × ℕ × ℕ) → List (List (List ℕ × ℕ × ℕ)) → List (List ℕ × ℕ × ℕ)
lines_in one many = one ++ all_lines many

-- the buckets are as above, and a word counts their names
pub record AreCounted (one : List (List ℕ × ℕ × ℕ)) (many : List (List (List ℕ × ℕ × ℕ))) (count : ℕ) : Type 0 where
  pub buckets : AreBuckets one many
  pub counted : count ≡ length (lines_in one many)
  pub few : count < 2 ^ 63
