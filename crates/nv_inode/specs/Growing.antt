-- A block of slots that is linked to the end of a CPU's chain.
use Rattle.std.specs.Prelude.{◌≡◌, ◌≢◌, ◌⊎◌, ◌≤◌, ◌<◌, ◌+◌, ◌*◌, ◌%◌, ℕ, [], ◌∷◌, ◌++◌, set, eqb, true, false}
use Rattle.std.specs.List.{list_any}
use Rattle.nv_region.specs.Region.{Region, word}
use Rattle.nv_region.specs.Stops.{Choices, IsMixed, One}
use Rattle.nv_region.specs.Stored.{Within}
use Rattle.nv_super.specs.declared.superblock.Super.{Super}
use Rattle.nv_super.specs.Layout.{Layout, chain_of, system_blocks}
use Rattle.nv_inode.specs.Chains.{chain_in, first_link, link_behind}

-- the block has no link to another, and no slot of it is in use
abbrev pub IsBlank : Region → ℕ → Type 0
IsBlank R block = (k : ℕ) → k < 32 → word R (4096 * block + 128 * k) ≡ 0

-- any value in a word of a block, or the block's address in the link to it
abbrev pub Links : ℕ → ℕ → Choices
Links link block i x = Within (4096 * block) 4096 i x ⊎ One link (4096 * block) i x

-- The block is blank and the link leads to it. Outside of the block no other word has changed.
pub record IsLinked (old : Region) (link block : ℕ) (new : Region) : Type 0 where
  pub blank : IsBlank new block
  pub leads : word new link ≡ 4096 * block
  pub others : (a : ℕ) → a % 8 ≡ 0 → a ≢ link → (a < 4096 * block) ⊎ (4096 * block + 4096 ≤ a) → word new a ≡ word old a

-- what a stop may leave: other words in a block to which nothing leads, or the block linked
abbrev pub LinksOrNot : Region → ℕ → ℕ → Region → Type 0
LinksOrNot old link block left = IsMixed old (Within (4096 * block) 4096) left ⊎ IsLinked old link block left

-- one block more at the end of a CPU's chain
abbrev pub with_block : Layout → ℕ → ℕ → Layout
with_block l cpu block = record { sup = l.sup; chains = set l.chains cpu (chain_of l cpu ++ block ∷ []) }

-- A block can be linked to the end of a CPU's chain: it is a data block of no chain, and the last block of the chain is in
-- no other.
pub record CanLink (s : Super) (R : Region) (cpu block : ℕ) : Type 0 where
  pub version : s.version ≡ 2
  pub below : cpu < s.cpus
  pub from : system_blocks s ≤ block
  pub to : block < s.blocks
  pub fresh : (c : ℕ) → c < s.cpus → list_any (eqb block) (chain_in s R c) ≡ false
  pub alone : (c b : ℕ) → c < s.cpus → c ≢ cpu → list_any (eqb b) (chain_in s R c) ≡ true → link_behind (first_link cpu) (chain_in s R cpu) ≢ 4096 * b
