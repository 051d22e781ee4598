-- A set of blocks that finds the blocks outside.
use Rattle.std.specs.Prelude.{◌≡◌, ◌⊎◌, ℕ, ◌-◌, ◌*◌, ◌^◌, ◌<◌, ◌≤◌, List, length, slice_index}
use Rattle.nv_blockset.specs.BlockSet.{has}

-- The words that are told full have all their bits.
pub record TellsFull (words full : List ℕ) : Type 0 where
  pub covers : length words ≤ 64 * length full
  pub all : (w : ℕ) → w < length words → has full w ≡ 1 → slice_index words w ≡ 2 ^ 64 - 1

-- The blocks from one up to another have this bit, and the others are as before.
pub record SetTo (old : List ℕ) (from to bit : ℕ) (new : List ℕ) : Type 0 where
  pub long : length new ≡ length old
  pub inside : (b : ℕ) → from ≤ b → b < to → has new b ≡ bit
  pub outside : (b : ℕ) → (b < from) ⊎ (to ≤ b) → has new b ≡ has old b
