-- How the free lists and the owners share the data blocks.
use Rattle.std.specs.Prelude.{◌≡◌, ◌⊎◌, ℕ, ◌<◌, ◌≤◌, List}
use Rattle.nv_region.specs.Region.{Region}
use Rattle.nv_super.specs.declared.owners.Owner.{Owner}
use Rattle.nv_super.specs.declared.owners.Run.{Run}
use Rattle.nv_super.specs.Layout.{Layout, system_blocks}
use Rattle.nv_alloc.specs.Taking.{HasBlock, pool_at}
use Rattle.nv_scan.specs.Owners.{Owns}

-- The block stands in exactly one free list or has exactly one owner, and never both.
pub record IsShared (R : Region) (l : Layout) (free : List (List Run)) (b : ℕ) : Type 0 where
  pub either : ((cpu : ℕ) × HasBlock (pool_at free cpu) b) ⊎ ((o : Owner) × Owns R l b o)
  pub never_both : (cpu : ℕ) (o : Owner) → HasBlock (pool_at free cpu) b → Owns R l b o → ⊥
  pub one_list : (c d : ℕ) → HasBlock (pool_at free c) b → HasBlock (pool_at free d) b → c ≡ d
  pub one_owner : (o p : Owner) → Owns R l b o → Owns R l b p → o ≡ p

-- so it is with each data block
abbrev pub SharesAll : Region → Layout → List (List Run) → Type 0
SharesAll R l free = (b : ℕ) → system_blocks l.sup ≤ b → b < l.sup.blocks → IsShared R l free b
