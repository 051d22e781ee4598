use Rattle.std.proofs.Common.{arith}
use Rattle.std.proofs.lemmas.List.{length_push}
use Rattle.nv_numbered.proofs.ChunkLemmas.{len_fits, AreChunks-more}
use Rattle.nv_numbered.proofs.chunks.Chunks.add_chunk.Goals as goal

pub invariant_of-self-2 : goal.invariant_of-self-2
invariant_of-self-2 g c =
    let t = c.self.inside in
    rw (c.push_reserved.ensures.items, c.reserve.ensures.items)
    (AreChunks-more t.chunks.items t.len c.self.invariant c.in_ok-with_capacity.field-0 c.in_ok-with_capacity.ensures.items c.in_ok-with_capacity.ensures.capacity (omega (arith, t.chunks.ok.0)))

pub returns-clause-ok : goal.returns-clause-ok
returns-clause-ok g c =
    let t = c.self.inside in
    rw (c.push_reserved.ensures.items, c.reserve.ensures.items, ← c.self.view_is)
    (omega (arith, length_push t.chunks.items c.in_ok-with_capacity.field-0, len_fits t.chunks.items t.len c.self.invariant))
