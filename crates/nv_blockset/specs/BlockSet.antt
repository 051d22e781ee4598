-- Sets of blocks as words: block b is bit b mod 64 of word b / 64.
use Rattle.std.specs.Prelude.{Bool, ℕ, ◌+◌, ◌/◌, ◌%◌, ◌^◌, ◌==◌, List, slice_index, slice_set, bit_or}
use Rattle.std.specs.Int.{bit_at}

-- 1 where the block is in the set, and else 0
abbrev pub has : List ℕ → ℕ → ℕ
has words b = bit_at (slice_index words (b / 64)) (b % 64)

-- the same as a test
abbrev pub is_set : List ℕ → ℕ → Bool
is_set words b = has words b == 1

-- the word with the bit of the block b
abbrev pub mask_of : ℕ → ℕ
mask_of b = 2 ^ (b % 64)

-- the set with one block more
abbrev pub with_block : List ℕ → ℕ → List ℕ
with_block words b = slice_set words (b / 64) (bit_or (slice_index words (b / 64)) (mask_of b))

-- how many words the set of this many blocks has
abbrev pub words_for : ℕ → ℕ
words_for blocks = (blocks + 63) / 64
