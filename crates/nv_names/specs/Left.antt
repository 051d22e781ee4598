-- What is left of an index for an iterator.
use Rattle.std.specs.Prelude.{◌≡◌, ℕ, ◌++◌, List, [], ◌∷◌, Option, None, Some, MatchOption}
use Rattle.nv_names.specs.declared.named.Named.{Named}
use Rattle.nv_names.specs.Buckets.{all_lines}
use Rattle.nv_names.specs.Names.{line_of}

-- the names of a bucket in hand, and those of the buckets behind it
abbrev pub left_in : Option (List (List ℕ × ℕ × ℕ)) → List (List (List ℕ × ℕ × ℕ)) → List (List ℕ × ℕ × ℕ)
left_in None buckets = all_lines buckets
left_in (Some bucket) buckets = bucket ++ all_lines buckets

-- a call gave the first of the lines that were left and left the others, or nothing where none was left
abbrev pub YieldsLine : List (List ℕ × ℕ × ℕ) → Option Named → List (List ℕ × ℕ × ℕ) → Type 0
YieldsLine old r new = MatchOption r ((old ≡ []) × (new ≡ [])) (λ line. old ≡ line_of line ∷ new)
