use Rattle.std.proofs.Common.{◌≡◌, ◌*◌, ◌/◌, ◌<◌, ◌≤◌, [], ◌++◌, length, take, sym, ap, ◌∙◌, arith, append-nil, length-append, lit<}
use Rattle.nv_numbered.specs.Filled.{joined, lists_of}
use Rattle.nv_numbered.proofs.ByChunks.{by_chunks-parts}
use Rattle.nv_numbered.proofs.ChunkLemmas.{full_before, joined-before, joined-before_none, len_fits, length-behind, length-values}
use Rattle.nv_numbered.proofs.chunks.Chunks.append.Goals as goal

pub put_in_front-requires : goal.put_in_front-requires
put_in_front-requires g c =
    let o = c.other.inside in
    rw c.split_last-last.ensures.chunks (full_before o.chunks.items o.len c.other.invariant (o.len / 256) (omega arith))

pub push_all-requires : goal.push_all-requires
push_all-requires g c =
    let o = c.other.inside in
    omega (arith, length-behind o.chunks.items o.len c.other.invariant (o.len / 256) (omega arith) (omega arith) c.in-Some.values c.in-Some.ensures.last, c.in_ok-reserve.ensures.ready)

pub returns-in-Some-clause-ok : goal.returns-in-Some-clause-ok
returns-in-Some-clause-ok g c =
    let o = c.other.inside in
    let old = c.args.self.now.items in
    let front = joined (lists_of (take (o.len / 256) o.chunks.items)) in
    let values = c.in-Some.values.items in
    let put : c.put_in_front.new.self.items ≡ front ++ old =
    c.in_ok-put_in_front.ensures.ok ∙ ap (λ chunks. joined (lists_of chunks) ++ c.reserve.new.self.items) c.split_last-last.ensures.chunks ∙ ap (λ items. front ++ items) c.reserve.ensures.items in
    let parts = joined-before o.chunks.items o.len c.other.invariant (o.len / 256) (omega arith) (omega arith) c.in-Some.values c.in-Some.ensures.last in
    let rest = length-behind o.chunks.items o.len c.other.invariant (o.len / 256) (omega arith) (omega arith) c.in-Some.values c.in-Some.ensures.last in
    let all = length-values o.chunks.items o.len c.other.invariant in
    let few : length values < 256 = omega (arith, rest) in
    let full : length front ≡ 256 * (o.len / 256) = omega (arith, rest, all, ap length parts, length-append front values) in
    rw (← c.other.view_is, parts)
    (c.push_all.ensures ∙ ap (λ items. items ++ values) put ∙ sym (by_chunks-parts old front values (o.len / 256) full few))

pub returns-in_default-clause-ok : goal.returns-in_default-clause-ok
returns-in_default-clause-ok g c =
    let o = c.other.inside in
    let old = c.args.self.now.items in
    let front = joined (lists_of (take (o.len / 256) o.chunks.items)) in
    let put : c.put_in_front.new.self.items ≡ front ++ old =
    c.in_ok-put_in_front.ensures.ok ∙ ap (λ chunks. joined (lists_of chunks) ++ c.reserve.new.self.items) c.split_last-last.ensures.chunks ∙ ap (λ items. front ++ items) c.reserve.ensures.items in
    let none : length o.chunks.items ≤ o.len / 256 = c.in_default.ensures.last in
    let parts : joined (lists_of o.chunks.items) ≡ front ++ [] =
    joined-before_none o.chunks.items o.len c.other.invariant (o.len / 256) (omega arith) (omega arith) none ∙ sym (append-nil front) in
    let full : length front ≡ 256 * (o.len / 256) =
    omega (arith, length-values o.chunks.items o.len c.other.invariant, len_fits o.chunks.items o.len c.other.invariant, ap length parts, length-append front []) in
    rw (← c.other.view_is, parts)
    (put ∙ sym (append-nil (front ++ old)) ∙ sym (by_chunks-parts old front [] (o.len / 256) full (lit< tt)))
