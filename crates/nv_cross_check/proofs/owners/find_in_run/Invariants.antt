use Rattle.std.proofs.Common.{◌≡◌, ◌++◌}
use Rattle.nv_super.specs.Owners.{pairs}
use Rattle.nv_cross_check.specs.Doubled.{claims_in_set}
use Rattle.nv_cross_check.proofs.owners.find_in_run.Given as goal

abbrev pub invariant-loop-by : goal.invariant-loop-by
invariant-loop-by l = l.found.items ≡ l.fn.found.items ++ claims_in_set l.second (pairs l.run.start l.owner l.by)
