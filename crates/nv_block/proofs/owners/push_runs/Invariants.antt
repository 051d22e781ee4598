use Rattle.std.proofs.Common.{◌≡◌, ◌++◌, take}
use Rattle.nv_scan.specs.Claims.{data_claims}
use Rattle.nv_block.specs.Owned.{owners_at}
use Rattle.nv_block.proofs.owners.push_runs.Given as goal

-- the owners by the runs so far were added
abbrev pub invariant-loop-run : goal.invariant-loop-run
invariant-loop-run l = l.owners.items ≡ l.fn.owners.items ++ owners_at l.block (data_claims l.inode (take l.run-index l.runs))
