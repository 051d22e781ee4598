-- What is stored of a file's pages.
use Rattle.std.specs.Prelude.{◌≡◌, ℕ, ◌+◌, ◌-◌, ◌*◌, ◌/◌, ◌≤◌, nat_lt, if◌then◌else◌, List, [], ◌∷◌, Option, Some, None}
use Rattle.nv_region.specs.Region.{Region, size}
use Rattle.nv_region.specs.Stops.{Choices}
use Rattle.nv_super.specs.declared.owners.Run.{Run}
use Rattle.nv_radix.specs.Pages.{Pages, block_at}
use Rattle.nv_alloc.specs.Taking.{HasBlock, Disjoint}
use Rattle.nv_mounted.specs.Bytes.{byte_in}

-- the block holds a file's bytes of this page
abbrev pub HoldsPage : Region → (ℕ → ℕ) → ℕ → ℕ → Type 0
HoldsPage R bytes block page = (x : ℕ) → x / 4096 ≡ page → byte_in R (Some block) x ≡ bytes x

-- the k-th block of runs, from 0
abbrev pub block_given : List Run → ℕ → Option ℕ
block_given [] k = None
block_given (r ∷ rs) k = if nat_lt k r.count then Some (r.start + k) else block_given rs (k - r.count)

-- the blocks of the runs, in their order, hold a file's bytes of the pages from one on
abbrev pub HoldPages : Region → (ℕ → ℕ) → ℕ → List Run → Type 0
HoldPages R bytes first runs = (k b : ℕ) → block_given runs k ≡ Some b → HoldsPage R bytes b (first + k)

-- any value in a word of these blocks
abbrev pub InBlocks : (ℕ → Type 0) → Choices
InBlocks P i x = P (8 * i / 4096)

-- The runs' blocks lie inside the region, each is there once, and none of them is the index's.
pub record AreFresh (R : Region) (m : Pages) (runs : List Run) : Type 0 where
  pub inside : (b : ℕ) → HasBlock runs b → b * 4096 + 4096 ≤ size R
  pub once : Disjoint runs
  pub apart : (p b : ℕ) → block_at m p ≡ Some b → HasBlock runs b → ⊥
