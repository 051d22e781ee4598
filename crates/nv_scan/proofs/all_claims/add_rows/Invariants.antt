use Rattle.std.proofs.Common.{◌≡◌, ◌++◌, ℕ, List, take}
use Rattle.nv_super.specs.declared.owners.Owner.{Owner}
use Rattle.nv_scan.specs.Claims.{AreClaimsOf}
use Rattle.nv_scan.proofs.all_claims.add_rows.Given as goal

abbrev pub invariant-loop-place : goal.invariant-loop-place
invariant-loop-place l = (own : List (ℕ × Owner)) × (l.claims.items ≡ l.fn.claims.items ++ own) × AreClaimsOf (take l.place l.rows.items) own
