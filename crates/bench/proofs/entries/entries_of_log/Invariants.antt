use Rattle.std.proofs.Common.{◌≡◌}
use Rattle.nv_logpage.specs.Progress.{remaining}
use Rattle.bench.proofs.entries.entries_of_log.Given as goal

abbrev pub invariant-reading : goal.invariant-reading
invariant-reading g l = l.reader.sup ≡ l.sup

abbrev pub decreases-reading : goal.decreases-reading
decreases-reading g l = remaining l.reader
