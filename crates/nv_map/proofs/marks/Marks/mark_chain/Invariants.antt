use Rattle.std.proofs.Common.{take}
use Rattle.nv_map.specs.Marks.{Raises, SaysOne, SaysBlock}
use Rattle.nv_map.proofs.marks.Marks.mark_chain.Given as goal

abbrev pub invariant-loop-block : goal.invariant-loop-block
invariant-loop-block l = Raises (SaysOne SaysBlock (take l.block-index l.chain)) l.fn.self l.self
