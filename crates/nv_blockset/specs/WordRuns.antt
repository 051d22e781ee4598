-- Runs of zero bits in a word of 64 bits, and a set without a block.
use Rattle.std.specs.Prelude.{◌≡◌, ℕ, ◌+◌, ◌*◌, ◌/◌, ◌%◌, ◌^◌, ◌<◌, ◌≤◌, List, slice_index, slice_set, bit_and}
use Rattle.std.specs.Int.{bit_at, bit_not, w64}

-- So many bits from one on are 0, and they end at a 1 or with the word.
pub record AreZeros (word from count : ℕ) : Type 0 where
  pub within : from + count ≤ 64
  pub zeros : (i : ℕ) → from ≤ i → i < from + count → bit_at word i ≡ 0
  pub stops : from + count < 64 → bit_at word (from + count) ≡ 1

-- The first zero bits at bit `from` or later are so many from bit `start` on: the bits before them are 1, and they end at a 1 or with the word.
pub record IsWordRun (word from start count : ℕ) : Type 0 where
  pub at : from ≤ start
  pub some : 0 < count
  pub before : (i : ℕ) → from ≤ i → i < start → bit_at word i ≡ 1
  pub run : AreZeros word start count

-- the set without a block
abbrev pub without_block : List ℕ → ℕ → List ℕ
without_block words b = slice_set words (b / 64) (bit_and (slice_index words (b / 64)) (bit_not w64 (1 * 2 ^ (b % 64) % 2 ^ 64)))
