-- The superblock, the journals and the links of chains, and what lies behind the journals.
use Rattle.std.specs.Prelude.{◌≡◌, ℕ, ◌+◌, ◌*◌, ◌%◌, ◌<◌, ◌≤◌, Some, slice_get}
use Rattle.nv_region.specs.Region.{Region, size, word}
use Rattle.nv_super.specs.Layout.{Layout, chain_of}

-- The regions are as long, and have the same superblock, the same journals and the same links in the blocks of the chains.
pub record SameFront (l : Layout) (R S : Region) : Type 0 where
  pub len : size S ≡ size R
  pub words : (at : ℕ) → at % 8 ≡ 0 → at < (1 + l.sup.cpus) * 4096 → word S at ≡ word R at
  pub links : (c k b : ℕ) → slice_get (chain_of l c) k ≡ Some b → word S (4096 * b) ≡ word R (4096 * b)

-- the regions have the same words behind the journals: the same tables and the same data blocks
abbrev pub SameBehind : ℕ → Region → Region → Type 0
SameBehind cpus R S = (at : ℕ) → at % 8 ≡ 0 → (1 + cpus) * 4096 ≤ at → word S at ≡ word R at
