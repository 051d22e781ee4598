use Rattle.nv_history.proofs.Going.{Going}
use Rattle.nv_history.proofs.runs.make_calls.Given as goal

abbrev pub invariant-loop-made : goal.invariant-loop-made
invariant-loop-made g l = Going g.P.Pmem.region g.P.Pmem.fuse l.calls l.fn.mount l.mount l.made
