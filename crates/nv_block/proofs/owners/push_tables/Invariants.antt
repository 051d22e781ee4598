use Rattle.std.proofs.Common.{◌≡◌, ◌++◌}
use Rattle.nv_scan.specs.ChainBlocks.{claims_of_chains}
use Rattle.nv_block.specs.Owned.{owners_at}
use Rattle.nv_block.proofs.owners.push_tables.Given as goal

-- the owners by the chains so far were added
abbrev pub invariant-loop-cpu : goal.invariant-loop-cpu
invariant-loop-cpu l = l.owners.items ≡ l.fn.owners.items ++ owners_at l.block (claims_of_chains l.tables.layout l.cpu)
