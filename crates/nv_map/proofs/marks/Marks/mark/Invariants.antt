use Rattle.std.proofs.Common.{◌/◌}
use Rattle.nv_map.specs.Marks.{AreRaised}
use Rattle.nv_map.proofs.marks.Marks.mark.Given as goal

abbrev pub invariant-loop-place : goal.invariant-loop-place
invariant-loop-place l = AreRaised (l.start / l.fn.self.each) l.place l.kind l.fn.self l.self
