-- Claiming the blocks of a piece.
use Rattle.std.specs.Prelude.{ℕ, ◌<◌}
use Rattle.nv_super.specs.Owners.{MayOwn}
use Rattle.nv_super.specs.declared.owners.Owner.{Owner}

-- a block of a map with so many blocks, for an owner that may have it
abbrev pub IsClaimable : ℕ → ℕ × Owner → Type 0
IsClaimable blocks x = (x.0 < blocks) × MayOwn x.1 1
