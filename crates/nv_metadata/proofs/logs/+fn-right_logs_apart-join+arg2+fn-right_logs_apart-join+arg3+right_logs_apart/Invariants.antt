use Rattle.std.proofs.Common.{◌-◌, ◌/◌}
use Rattle.nv_metadata.proofs.logs.+fn-right_logs_apart-join+arg2+fn-right_logs_apart-join+arg3+right_logs_apart.Given as goal

-- the threads that are left for it
abbrev pub decreases-right_logs_apart : goal.decreases-right_logs_apart
decreases-right_logs_apart g l = l.threads

abbrev pub decreases-join+arg2 : goal.decreases-join+arg2
decreases-join+arg2 g l = l.threads / 2

abbrev pub decreases-join+arg3 : goal.decreases-join+arg3
decreases-join+arg3 g l = l.threads - l.threads / 2
