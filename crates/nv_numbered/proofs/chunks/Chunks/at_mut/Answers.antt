use Rattle.std.proofs.Common.{◌<◌, ◌/◌, ◌%◌, refl, arith}
use Rattle.std.specs.Vec.{with_item}
use Rattle.nv_numbered.proofs.ChunkLemmas.{length-values, chunk_inside, chunk_room, inside_chunk, value_read, seen_as-write, AreChunks-write}
use Rattle.nv_numbered.proofs.chunks.Chunks.at_mut.Goals as goal

pub index_mut-chunk-requires : goal.index_mut-chunk-requires
index_mut-chunk-requires g c =
    let t = c.self.inside in
    let within : c.args.place < t.len = omega (arith, rw (← c.self.view_is) at c.requires, length-values t.chunks.items t.len c.self.invariant) in
    omega (arith, chunk_inside t.chunks.items t.len c.self.invariant c.args.place within, t.chunks.ok.0)

pub index_mut-requires : goal.index_mut-requires
index_mut-requires g c =
    let t = c.self.inside in
    let within : c.args.place < t.len = omega (arith, rw (← c.self.view_is) at c.requires, length-values t.chunks.items t.len c.self.invariant) in
    omega (arith, inside_chunk t.chunks.items t.len c.self.invariant c.args.place within c.index_mut-chunk.result.now c.index_mut-chunk.ensures.value, c.index_mut-chunk.result.now.ok.0)

pub invariant_of-self-lent : goal.invariant_of-self-lent
invariant_of-self-lent g c w =
    let t = c.self.inside in
    let within : c.args.place < t.len = omega (arith, rw (← c.self.view_is) at c.requires, length-values t.chunks.items t.len c.self.invariant) in
    let inside = chunk_inside t.chunks.items t.len c.self.invariant c.args.place within in
    let chunk = c.index_mut-chunk.result.now in
    AreChunks-write t.chunks.items t.len c.self.invariant c.args.place within chunk c.index_mut-chunk.ensures.value (with_item chunk (c.args.place % 256) w) w refl
    (chunk_room t.chunks.items t.len c.self.invariant (c.args.place / 256) chunk inside c.index_mut-chunk.ensures.value)

pub returns : goal.returns
returns g c =
    let t = c.self.inside in
    let within : c.args.place < t.len = omega (arith, rw (← c.self.view_is) at c.requires, length-values t.chunks.items t.len c.self.invariant) in
    let chunk = c.index_mut-chunk.result.now in (
      (refl, λ w. rw (← c.self.view_is, seen_as-write t.chunks.items t.len c.self.invariant c.args.place within chunk c.index_mut-chunk.ensures.value (with_item chunk (c.args.place % 256) w) w refl)),
      record {
        writes_back = tt;
        value = rw (← c.self.view_is) (value_read t.chunks.items t.len c.self.invariant c.args.place within chunk c.index_mut-chunk.ensures.value c.index_mut.result.now c.index_mut.ensures.value);
      },
    )
