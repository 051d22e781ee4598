use Rattle.std.proofs.Common.{sym}
use Rattle.nv_numbered.proofs.ChunkLemmas.{length-values}
use Rattle.nv_numbered.proofs.chunks.Chunks.len.Goals as goal

pub returns : goal.returns
returns g c = rw (← c.self.view_is) (sym (length-values c.self.inside.chunks.items c.self.inside.len c.self.invariant))
