use Rattle.std.proofs.Common.{◌-◌, ◌/◌, ◌<◌, length, sym, arith, true≢false, length-set}
use Rattle.std.proofs.lemmas.List.{take_all}
use Rattle.nv_numbered.proofs.ChunkLemmas.{length-values, len_fits, length_read, joined-pop_at, AreChunks-pop}
use Rattle.nv_numbered.proofs.FilledLemmas.{last_is, without_last}
use Rattle.nv_numbered.proofs.chunks.Chunks.pop.Goals as goal

pub returns-then-self-eq0-clause-variant : goal.returns-then-self-eq0-clause-variant
returns-then-self-eq0-clause-variant g c =
    let none = length-values c.self.inside.chunks.items c.self.inside.len c.self.invariant in
    rw (← c.self.view_is) (λ never. absurd (true≢false (sym never)), λ some. absurd (omega (arith, none)))

pub returns-then-self-eq0-clause-rest : goal.returns-then-self-eq0-clause-rest
returns-then-self-eq0-clause-rest g c =
    let none = length-values c.self.inside.chunks.items c.self.inside.len c.self.invariant in
    rw (← c.self.view_is) (sym (take_all _ _ (omega (arith, none))))

pub returns-then-self-eq0-clause-value : goal.returns-then-self-eq0-clause-value
returns-then-self-eq0-clause-value g c d some =
    let t = c.self.inside in
    absurd (omega (arith, length-values t.chunks.items t.len c.self.invariant, rw (← c.self.view_is) at some))

pub index_mut-chunk-requires : goal.index_mut-chunk-requires
index_mut-chunk-requires g c =
    let t = c.self.inside in
    omega (arith, len_fits t.chunks.items t.len c.self.invariant, t.chunks.ok.0)

pub take_last-requires : goal.take_last-requires
take_last-requires g c =
    let t = c.self.inside in
    let chunk = c.index_mut-chunk.result.now in
    let inside : (t.len - 1) / 256 < length t.chunks.items = omega (arith, len_fits t.chunks.items t.len c.self.invariant) in
    omega (arith, length_read t.chunks.items t.len c.self.invariant ((t.len - 1) / 256) chunk inside c.index_mut-chunk.ensures.value, chunk.ok.0)

pub invariant_of-self : goal.invariant_of-self
invariant_of-self g c =
    let t = c.self.inside in
    let chunk = c.index_mut-chunk.result.now in
    let inside : (t.len - 1) / 256 < length t.chunks.items = omega (arith, len_fits t.chunks.items t.len c.self.invariant) in
    AreChunks-pop t.chunks.items t.len c.self.invariant ((t.len - 1) / 256) chunk inside c.index_mut-chunk.ensures.value c.take_last.new.self c.take_last.result c.take_last.ensures.capacity c.take_last.ensures.items (omega arith) (omega arith)

pub returns-clause-items : goal.returns-clause-items
returns-clause-items g c =
    let t = c.self.inside in
    let chunk = c.index_mut-chunk.result.now in
    let inside : (t.len - 1) / 256 < length t.chunks.items = omega (arith, len_fits t.chunks.items t.len c.self.invariant) in
    rw (← c.self.view_is) (joined-pop_at t.chunks.items t.len c.self.invariant ((t.len - 1) / 256) chunk inside c.index_mut-chunk.ensures.value c.take_last.new.self c.take_last.result c.take_last.ensures.items (omega arith) (omega arith))

pub returns-clause-rest : goal.returns-clause-rest
returns-clause-rest g c =
    let t = c.self.inside in
    let chunk = c.index_mut-chunk.result.now in
    let inside : (t.len - 1) / 256 < length t.chunks.items = omega (arith, len_fits t.chunks.items t.len c.self.invariant) in
    rw (← c.self.view_is) (without_last _ _ c.take_last.result (joined-pop_at t.chunks.items t.len c.self.invariant ((t.len - 1) / 256) chunk inside c.index_mut-chunk.ensures.value c.take_last.new.self c.take_last.result c.take_last.ensures.items (omega arith) (omega arith)))

pub returns-clause-value : goal.returns-clause-value
returns-clause-value g c d some =
    let t = c.self.inside in
    let chunk = c.index_mut-chunk.result.now in
    let inside : (t.len - 1) / 256 < length t.chunks.items = omega (arith, len_fits t.chunks.items t.len c.self.invariant) in
    rw (← c.self.view_is) (last_is _ _ c.take_last.result d (joined-pop_at t.chunks.items t.len c.self.invariant ((t.len - 1) / 256) chunk inside c.index_mut-chunk.ensures.value c.take_last.new.self c.take_last.result c.take_last.ensures.items (omega arith) (omega arith)))

pub returns-clause-freed : goal.returns-clause-freed
returns-clause-freed g c =
    let t = c.self.inside in
    rw (← c.self.view_is) (omega (arith, length-set t.chunks.items ((t.len - 1) / 256) c.take_last.new.self, len_fits t.chunks.items t.len c.self.invariant))
