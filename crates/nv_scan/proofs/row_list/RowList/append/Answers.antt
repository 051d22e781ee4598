use Rattle.std.proofs.Common.{sym, ap, ◌∙◌}
use Rattle.nv_numbered.specs.Chunked.{by_chunks}
use Rattle.nv_numbered.proofs.ByChunks.{map-by_chunks}
use Rattle.nv_scan.specs.Heads.{head_of, heads_of}
use Rattle.nv_scan.proofs.row_list.RowList.append.Goals as goal

pub invariant_of-self-in-Ok : goal.invariant_of-self-in-Ok
invariant_of-self-in-Ok c =
    let mine = c.self.inside in
    let more = c.other.inside in
    c.in_ok-append.ensures.ok
    ∙ ap (λ heads. by_chunks heads more.heads.items) c.self.invariant
    ∙ ap (λ heads. by_chunks (heads_of mine.rows.items) heads) c.other.invariant
    ∙ sym (ap heads_of c.in-Ok.ensures.ok ∙ map-by_chunks head_of mine.rows.items more.rows.items)
