use Rattle.std.proofs.Common.{take}
use Rattle.nv_map.specs.Marks.{Raises, SaysOne, SaysPage}
use Rattle.nv_map.proofs.marks.Marks.mark_log.Given as goal

abbrev pub invariant-loop-block : goal.invariant-loop-block
invariant-loop-block l = Raises (SaysOne SaysPage (take l.block-index l.pages)) l.fn.self l.self
