use Rattle.std.proofs.Common.{◌≡◌, ◌++◌, take}
use Rattle.nv_scan.specs.Claims.{data_claims}
use Rattle.nv_scan.proofs.claims.add_runs.Given as goal

abbrev pub invariant-loop-extent : goal.invariant-loop-extent
invariant-loop-extent l = l.claims.items ≡ l.fn.claims.items ++ data_claims l.inode (take l.extent-index l.runs)
