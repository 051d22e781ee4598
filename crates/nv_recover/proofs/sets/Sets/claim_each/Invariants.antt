use Rattle.std.proofs.Common.{◌≡◌, ◌++◌, ℕ, List, length, take}
use Rattle.nv_super.specs.declared.owners.Owner.{Owner}
use Rattle.nv_scan.specs.Work.{claims_among}
use Rattle.nv_outcome.specs.Parts.{AreMaps}
use Rattle.nv_recover.proofs.sets.Sets.claim_each.Given as goal

abbrev pub invariant-loop-claims : goal.invariant-loop-claims
invariant-loop-claims l = record {
  first_long : length l.self.first.items ≡ length l.fn.self.first.items;
  second_long : length l.self.second.items ≡ length l.fn.self.second.items;
  maps : (before : List (ℕ × Owner)) → AreMaps before l.fn.self.first.items l.fn.self.second.items → AreMaps (before ++ claims_among (take l.claims-index l.each)) l.self.first.items l.self.second.items;
}
