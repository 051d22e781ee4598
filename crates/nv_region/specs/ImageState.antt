-- A region over borrowed bytes, as its contracts see it.
use Rattle.std.specs.Prelude.{◌≡◌, ℕ, Bool, true, false, ◌&&◌, not, nat_le, List, ◌++◌, length, drop, get_or}
use Rattle.nv_region.specs.Region.{Region}
use Rattle.nv_region.specs.Fuses.{FuseState, not_burnt}

-- the region as it reads, how many bytes at its front take stores, and whether a store was refused
pub record ImageState : Type 0 where
  pub region : Region
  pub front : ℕ
  pub burnt : Bool

-- the region with these words at its front
abbrev pub with_front : List ℕ → Region → Region
with_front front R = record R { words = front ++ drop (length front) R.words }

-- a word may be left only as it reads: a store is there at once
abbrev pub as_it_reads : ImageState → ℕ → ℕ → Type 0
as_it_reads m i x = x ≡ get_or m.region.words i 0

-- no store was refused, and none that ends at or before this address will be
abbrev pub is_open_to : ImageState → ℕ → Bool
is_open_to m limit = nat_le limit m.front && not m.burnt

-- what became of its fuse: a store behind the front always burns it, so it is never steady
abbrev pub fuse_state : ImageState → FuseState
fuse_state m = record { has_burnt = m.burnt; is_steady = false; is_open = is_open_to m }

-- a memory that is open up to some address has refused no store
pub open_not_burnt : (m : ImageState) (limit : ℕ) → is_open_to m limit ≡ true → m.burnt ≡ false
open_not_burnt m limit = not_burnt (nat_le limit m.front) m.burnt
