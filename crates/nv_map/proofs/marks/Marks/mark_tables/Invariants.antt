use Rattle.std.proofs.Common.{take}
use Rattle.nv_map.specs.Marks.{Raises, SaysOne, SaysChain}
use Rattle.nv_map.proofs.marks.Marks.mark_tables.Given as goal

abbrev pub invariant-loop-cpu : goal.invariant-loop-cpu
invariant-loop-cpu l = Raises (SaysOne SaysChain (take l.cpu l.tables.layout.chains)) l.fn.self l.self
