use Rattle.std.proofs.Common.{◌≡◌, ◌++◌, ℕ, List, length, take}
use Rattle.nv_super.specs.declared.owners.Owner.{Owner}
use Rattle.nv_scan.specs.Claims.{log_claims}
use Rattle.nv_outcome.specs.Parts.{AreMaps}
use Rattle.nv_recover.proofs.sets.fill_pages.Given as goal

abbrev pub invariant-loop-block : goal.invariant-loop-block
invariant-loop-block l = record {
  first_long : length l.first ≡ length l.fn.first;
  second_long : length l.second ≡ length l.fn.second;
  maps : (before : List (ℕ × Owner)) → AreMaps before l.fn.first l.fn.second → AreMaps (before ++ log_claims l._inode 0 (take l.block-index l.pages)) l.first l.second;
}
