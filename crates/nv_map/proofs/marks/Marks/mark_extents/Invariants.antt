use Rattle.std.proofs.Common.{take}
use Rattle.nv_map.specs.Marks.{Raises, SaysOne, SaysExtent}
use Rattle.nv_map.proofs.marks.Marks.mark_extents.Given as goal

abbrev pub invariant-loop-extent : goal.invariant-loop-extent
invariant-loop-extent l = Raises (SaysOne SaysExtent (take l.extent-index l.extents)) l.fn.self l.self
