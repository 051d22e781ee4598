-- Blocks in a list, each once, and as a set.
use Rattle.std.specs.Prelude.{◌≡◌, ◌*◌, ◌<◌, ◌≤◌, ℕ, List, true, eqb, length, vec_capacity}
use Rattle.std.specs.List.{list_any, IsDistinct}
use Rattle.nv_blockset.specs.BlockSet.{is_set}
use Rattle.nv_blockset.specs.declared.listed.BlockList.TheInside.{Inside}

-- the bound of the blocks, and the blocks in the order in which they came
pub record Listed : Type 0 where
  pub bound : ℕ
  pub blocks : List ℕ

-- the list has room for a first block, and the bits are those of its blocks
pub record AreListed (s : Inside) : Type 0 where
  pub first : 0 < vec_capacity s.blocks
  pub room : s.bound ≤ 64 * length s.words.items
  pub once : IsDistinct eqb s.blocks.items
  pub below : (b : ℕ) → list_any (eqb b) s.blocks.items ≡ true → b < s.bound
  pub listed : (b : ℕ) → is_set s.words.items b ≡ list_any (eqb b) s.blocks.items
