use Rattle.std.proofs.Common.{◌-◌, ◌/◌}
use Rattle.nv_metadata.proofs.parts.+fetch_apart+fn-fetch_apart-join+arg2+fn-fetch_apart-join+arg3.Given as goal

-- the threads that are left for it
abbrev pub decreases-fetch_apart : goal.decreases-fetch_apart
decreases-fetch_apart g l = l.threads

abbrev pub decreases-join+arg2 : goal.decreases-join+arg2
decreases-join+arg2 g l = l.threads / 2

abbrev pub decreases-join+arg3 : goal.decreases-join+arg3
decreases-join+arg3 g l = l.threads - l.threads / 2
