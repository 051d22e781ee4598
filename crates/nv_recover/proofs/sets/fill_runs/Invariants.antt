use Rattle.std.proofs.Common.{◌≡◌, ◌++◌, ℕ, List, length, take}
use Rattle.nv_super.specs.declared.owners.Owner.{Owner}
use Rattle.nv_scan.specs.Claims.{data_claims}
use Rattle.nv_outcome.specs.Parts.{AreMaps}
use Rattle.nv_recover.proofs.sets.fill_runs.Given as goal

abbrev pub invariant-loop-run : goal.invariant-loop-run
invariant-loop-run l = record {
  first_long : length l.first ≡ length l.fn.first;
  second_long : length l.second ≡ length l.fn.second;
  maps : (before : List (ℕ × Owner)) → AreMaps before l.fn.first l.fn.second → AreMaps (before ++ data_claims l.inode (take l.run-index l.runs)) l.first l.second;
}
