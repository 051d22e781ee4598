use Rattle.std.proofs.Common.{take}
use Rattle.nv_map.specs.Marks.{Raises, SaysOne, SaysClaim}
use Rattle.nv_map.proofs.marks.Marks.mark_doubled.Given as goal

abbrev pub invariant-loop-block : goal.invariant-loop-block
invariant-loop-block l = Raises (SaysOne SaysClaim (take l.block-index l.doubled)) l.fn.self l.self
