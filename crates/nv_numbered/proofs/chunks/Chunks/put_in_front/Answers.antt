use Rattle.std.proofs.Common.{arith}
use Rattle.nv_numbered.proofs.ChunkLemmas.{len_fits, AreChunks-front}
use Rattle.nv_numbered.proofs.chunks.Chunks.put_in_front.Goals as goal

pub overflow_add-self : goal.overflow_add-self
overflow_add-self g c =
    let t = c.self.inside in
    omega (arith, len_fits t.chunks.items t.len c.self.invariant, t.chunks.ok.0)

pub invariant_of-self-2 : goal.invariant_of-self-2
invariant_of-self-2 g c =
    let t = c.self.inside in
    rw (c.in_ok-append.ensures.items, c.len-count.ensures, c.args.full.ok.0)
    (AreChunks-front t.chunks.items t.len c.self.invariant c.args.full.items c.requires (omega (arith, t.chunks.ok.0, c.args.full.ok.0)))
