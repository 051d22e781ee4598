use Rattle.nv_metadata.specs.Walk.{AreLogsAmong}
use Rattle.nv_metadata.proofs.logs.right_logs_among.Given as goal

abbrev pub invariant-loop-place : goal.invariant-loop-place
invariant-loop-place g l = AreLogsAmong (g.P.Pmem.region l.memory) l.sup l.from l.place l.logs.items
