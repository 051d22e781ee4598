-- The owners of a block among claims.
use Rattle.std.specs.Prelude.{◌≡◌, ℕ, ◌+◌, ◌-◌, ◌==◌, Bool, ◌&&◌, nat_le, nat_lt, if◌then◌else◌, List, [], ◌∷◌, ◌++◌}
use Rattle.nv_super.specs.declared.owners.Owner.{Owner}
use Rattle.nv_super.specs.declared.owners.Owner.TheVariants as owners
use Rattle.nv_radix.specs.declared.extent.Extent.{Extent}
use Rattle.nv_scan.specs.Claims.{AreClaimsOf, AreRowClaims}
use Rattle.nv_scan.specs.declared.piece.Row.{Row}

-- the owners of those claims that are of the block
abbrev pub owners_at : ℕ → List (ℕ × Owner) → List Owner
owners_at b [] = []
owners_at b (x ∷ xs) = if x.0 == b then x.1 ∷ owners_at b xs else owners_at b xs

-- the block lies in the extent
abbrev pub has_block : Extent → ℕ → Bool
has_block x b = nat_le x.block b && nat_lt (b - x.block) x.count

-- the owner of the block by an extent of a file, if it lies there
abbrev pub run_owners : ℕ → Extent → ℕ → List Owner
run_owners i x b = if has_block x b then owners.Data i (x.page + (b - x.block)) ∷ [] else []

-- the owners among these that one row gives were added
abbrev pub AddsOwners : Row → ℕ → List Owner → List Owner → Type 0
AddsOwners row b old new = (own : List (ℕ × Owner)) × AreRowClaims row own × (new ≡ old ++ owners_at b own)

-- the owners among these that all rows give were added
abbrev pub AddsOwnersOf : List Row → ℕ → List Owner → List Owner → Type 0
AddsOwnersOf rows b old new = (own : List (ℕ × Owner)) × AreClaimsOf rows own × (new ≡ old ++ owners_at b own)
