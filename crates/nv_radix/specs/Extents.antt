-- The extents of a map from pages to blocks.
use Rattle.std.specs.Prelude.{◌≡◌, ◌≢◌, ℕ, ◌+◌, ◌-◌, ◌<◌, ◌≤◌, if◌then◌else◌, List, [], ◌∷◌, Some, None, IsSome, All, Contains}
use Rattle.nv_radix.specs.declared.extent.Extent.{Extent}
use Rattle.nv_radix.specs.Pages.{Pages, block_at, in_run}

-- each page of the extent maps to its block
abbrev pub IsMapped : Pages → Extent → Type 0
IsMapped m x = (j : ℕ) → j < x.count → block_at m (x.page + j) ≡ Some (x.block + j)

-- the page stands in the extent
abbrev pub HasPage : Extent → ℕ → Type 0
HasPage x p = (x.page ≤ p) × (p < x.page + x.count)

-- the second extent stands behind the first, and doesn't go on with both its pages and its blocks
pub record IsApart (x y : Extent) : Type 0 where
  pub rises : x.page + x.count ≤ y.page
  pub breaks : x.page + x.count ≡ y.page → x.block + x.count ≢ y.block

-- every extent and its neighbour are apart
abbrev pub AreApart : List Extent → Type 0
AreApart [] = Unit {0}
AreApart (x ∷ []) = Unit {0}
AreApart (x ∷ y ∷ extents) = IsApart x y × AreApart (y ∷ extents)

-- the second map has the pages of an extent more, which stand behind all that the first maps
pub record HasRunBehind (m n : Pages) (x : Extent) : Type 0 where
  pub behind : (p : ℕ) → x.page ≤ p → block_at m p ≡ None
  pub set : (p : ℕ) → block_at n p ≡ (if in_run x.page x.count p then Some (x.block + (p - x.page)) else block_at m p)

-- the longest extents of the map, rising, and nothing but them
pub record AreExtents (m : Pages) (extents : List Extent) : Type 0 where
  pub some : All (λ x. 0 < x.count) extents
  pub mapped : All (IsMapped m) extents
  pub whole : (p : ℕ) → IsSome (block_at m p) → (x : Extent) × Contains extents x × HasPage x p
  pub apart : AreApart extents
