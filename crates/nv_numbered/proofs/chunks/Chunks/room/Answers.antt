use Rattle.std.proofs.Common.{arith}
use Rattle.nv_numbered.proofs.ChunkLemmas.{len_fits}
use Rattle.nv_numbered.proofs.chunks.Chunks.room.Goals as goal

pub overflow_sub-result : goal.overflow_sub-result
overflow_sub-result g c =
    let t = c.self.inside in
    omega (arith, len_fits t.chunks.items t.len c.self.invariant, t.chunks.ok.0)
