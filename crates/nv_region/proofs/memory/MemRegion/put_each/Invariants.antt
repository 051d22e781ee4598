use Rattle.std.proofs.Common.{◌≡◌, ◌*◌}
use Rattle.nv_region.specs.Lines.{put_words}
use Rattle.nv_region.proofs.memory.MemRegion.put_each.Given as goal

abbrev pub invariant-loop-k : goal.invariant-loop-k
invariant-loop-k l = l.self ≡ record l.fn.self { region = put_words l.fn.self.region (8 * l.first) l.words l.k }
