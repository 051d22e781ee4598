-- A region of version 1 that becomes one of version 2.
use Rattle.std.specs.Prelude.{◌≡◌, ◌≢◌, ◌⊎◌, ◌<◌, ◌%◌, ℕ}
use Rattle.nv_region.specs.Region.{Region, size, word}
use Rattle.nv_region.specs.Stops.{Choices, IsMixed, One}
use Rattle.nv_super.specs.declared.superblock.Super.{Super}
use Rattle.nv_super.specs.Layout.{Layout}
use Rattle.nv_inode.specs.Chains.{first_link}

-- 0 in the link to the first block of a CPU's chain
abbrev pub NoLinks : ℕ → Choices
NoLinks cpus i x = (cpu : ℕ) × (cpu < cpus) × One (first_link cpu) 0 i x

-- the version is 2, all first links are 0, and no other word has changed
pub record IsUpgraded (old : Region) (cpus : ℕ) (new : Region) : Type 0 where
  pub len : size new ≡ size old
  pub version : word new 8 ≡ 2
  pub links : (cpu : ℕ) → cpu < cpus → word new (first_link cpu) ≡ 0
  pub others : (a : ℕ) → a % 8 ≡ 0 → a ≢ 8 → ((cpu : ℕ) → cpu < cpus → a ≢ first_link cpu) → word new a ≡ word old a

-- what a stop may leave: some first links cleared, or the new version
abbrev pub UpgradedOrNot : Region → ℕ → Region → Type 0
UpgradedOrNot old cpus left = IsMixed old (NoLinks cpus) left ⊎ IsUpgraded old cpus left

-- the words that are stored
abbrev pub UpgradeStores : ℕ → Choices
UpgradeStores cpus i x = NoLinks cpus i x ⊎ One 8 2 i x

-- a superblock of version 2 with the same numbers
abbrev pub upgraded : Super → Super
upgraded s = record s { version = 2 }

-- and the layout with it: the chains are the same
abbrev pub upgraded_layout : Layout → Layout
upgraded_layout l = record { sup = upgraded l.sup; chains = l.chains }
