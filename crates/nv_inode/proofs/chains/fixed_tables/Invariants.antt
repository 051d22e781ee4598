use Rattle.std.proofs.Common.{◌≡◌, [], replicate}
use Rattle.nv_inode.specs.Tables.{lists_of}
use Rattle.nv_inode.proofs.chains.fixed_tables.Given as goal

abbrev pub invariant-loop : goal.invariant-loop
invariant-loop g l = lists_of l.chains.items ≡ replicate l.counter []
