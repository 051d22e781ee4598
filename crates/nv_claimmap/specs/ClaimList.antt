-- What a contract sees of claims.
use Rattle.std.specs.Prelude.{ℕ, List}
use Rattle.nv_super.specs.declared.owners.Owner.{Owner}

-- the blocks that are claimed, each with its owner
pub record ClaimList : Type 0 where
  pub items : List (ℕ × Owner)
