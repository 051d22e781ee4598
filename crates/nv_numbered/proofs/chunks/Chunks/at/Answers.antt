use Rattle.std.proofs.Common.{◌<◌, arith}
use Rattle.nv_numbered.proofs.ChunkLemmas.{length-values, chunk_inside, inside_chunk, value_read}
use Rattle.nv_numbered.proofs.chunks.Chunks.at.Goals as goal

pub index-chunk-requires : goal.index-chunk-requires
index-chunk-requires g c =
    let t = c.self.inside in
    let within : c.args.place < t.len = omega (arith, rw (← c.self.view_is) at c.requires, length-values t.chunks.items t.len c.self.invariant) in
    omega (arith, chunk_inside t.chunks.items t.len c.self.invariant c.args.place within, t.chunks.ok.0)

pub index-requires : goal.index-requires
index-requires g c =
    let t = c.self.inside in
    let within : c.args.place < t.len = omega (arith, rw (← c.self.view_is) at c.requires, length-values t.chunks.items t.len c.self.invariant) in
    omega (arith, inside_chunk t.chunks.items t.len c.self.invariant c.args.place within c.index-chunk.result.now c.index-chunk.ensures, c.index-chunk.result.now.ok.0)

pub returns : goal.returns
returns g c =
    let t = c.self.inside in
    let within : c.args.place < t.len = omega (arith, rw (← c.self.view_is) at c.requires, length-values t.chunks.items t.len c.self.invariant) in
    rw (← c.self.view_is) (value_read t.chunks.items t.len c.self.invariant c.args.place within c.index-chunk.result.now c.index-chunk.ensures c.index.result.now c.index.ensures)
