use Rattle.std.proofs.Common.{◌≡◌, ◌++◌}
use Rattle.nv_scan.specs.ChainBlocks.{claims_of_chains}
use Rattle.nv_scan.proofs.all_claims.add_chains.Given as goal

abbrev pub invariant-loop-cpu : goal.invariant-loop-cpu
invariant-loop-cpu l = l.claims.items ≡ l.fn.claims.items ++ claims_of_chains l.tables.layout l.cpu
