-- The key of a name.
use Rattle.std.specs.Prelude.{ℕ, ◌+◌, ◌*◌, ◌%◌, ◌^◌, List}
use Rattle.std.specs.List.{fold}

-- a number with one more digit to the base 257, in its lowest 64 bits
abbrev pub with_digit : ℕ → ℕ → ℕ
with_digit number byte = (number * 257 + byte) % 2 ^ 64

-- the number whose digits are those of the name's bytes, from the left, in its lowest 64 bits
abbrev pub key_of : List ℕ → ℕ
key_of name = fold with_digit 0 name
