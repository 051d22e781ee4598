use Rattle.std.proofs.Common.{◌-◌, ◌/◌}
use Rattle.nv_report.proofs.threaded.+fn-with_tree-join+arg2+fn-with_tree-join+arg3+with_tree.Given as goal

-- the threads that are left for it
abbrev pub decreases-join+arg2 : goal.decreases-join+arg2
decreases-join+arg2 g l = l.threads / 2

abbrev pub decreases-join+arg3 : goal.decreases-join+arg3
decreases-join+arg3 g l = l.threads - l.threads / 2

abbrev pub decreases-with_tree : goal.decreases-with_tree
decreases-with_tree g l = l.threads
