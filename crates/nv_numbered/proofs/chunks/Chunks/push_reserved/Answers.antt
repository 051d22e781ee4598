use Rattle.std.proofs.Common.{◌<◌, ◌/◌, length, arith}
use Rattle.nv_numbered.proofs.ChunkLemmas.{chunk_room, length_read, joined-push_at, AreChunks-push}
use Rattle.nv_numbered.proofs.chunks.Chunks.push_reserved.Goals as goal

pub push_reserved-requires : goal.push_reserved-requires
push_reserved-requires g c =
    let t = c.self.inside in
    let chunk = c.index_mut-chunk.result.now in
    let inside : t.len / 256 < length t.chunks.items = omega (arith, rw (← c.self.view_is) at c.requires) in
    omega (arith, length_read t.chunks.items t.len c.self.invariant (t.len / 256) chunk inside c.index_mut-chunk.ensures.value, chunk_room t.chunks.items t.len c.self.invariant (t.len / 256) chunk inside c.index_mut-chunk.ensures.value, chunk.ok.0)

pub invariant_of-self : goal.invariant_of-self
invariant_of-self g c =
    let t = c.self.inside in
    let chunk = c.index_mut-chunk.result.now in
    let inside : t.len / 256 < length t.chunks.items = omega (arith, rw (← c.self.view_is) at c.requires) in
    AreChunks-push t.chunks.items t.len c.self.invariant (t.len / 256) chunk inside c.index_mut-chunk.ensures.value c.push_reserved.new.self c.args.value c.push_reserved.ensures.capacity c.push_reserved.ensures.items (omega arith) (omega arith)

pub returns-clause-items : goal.returns-clause-items
returns-clause-items g c =
    let t = c.self.inside in
    let chunk = c.index_mut-chunk.result.now in
    let inside : t.len / 256 < length t.chunks.items = omega (arith, rw (← c.self.view_is) at c.requires) in
    rw (← c.self.view_is) (joined-push_at t.chunks.items t.len c.self.invariant (t.len / 256) chunk inside c.index_mut-chunk.ensures.value c.push_reserved.new.self c.args.value c.push_reserved.ensures.items (omega arith) (omega arith))
