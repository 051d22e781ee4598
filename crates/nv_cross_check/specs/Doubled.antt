-- The claims of blocks that have two owners or more.
use Rattle.std.specs.Prelude.{◌≡◌, ◌<◌, ◌*◌, ℕ, List, length}
use Rattle.std.specs.List.{All, Contains, filter}
use Rattle.nv_blockset.specs.BlockSet.{has, is_set}
use Rattle.nv_super.specs.declared.owners.Owner.{Owner}
use Rattle.nv_super.specs.Order.{claim_key, Lists}

-- The claims of the blocks in the second set, each once, rising.
abbrev pub AreDoubled : List (ℕ × Owner) → List ℕ → List (ℕ × Owner) → Type 0
AreDoubled claims second found = Lists claim_key (λ x. Contains claims x × (has second x.0 ≡ 1)) found

-- The set has a bit for the block of each of these claims.
abbrev pub AreCovered : List ℕ → List (ℕ × Owner) → Type 0
AreCovered words claims = All (λ (x : ℕ × Owner). x.0 < 64 * length words) claims

-- those of the claims whose blocks are in the set
abbrev pub claims_in_set : List ℕ → List (ℕ × Owner) → List (ℕ × Owner)
claims_in_set words claims = filter (λ (x : ℕ × Owner). is_set words x.0) claims
