use Rattle.std.proofs.Common.{◌+◌, ◌*◌, ◌-◌, get_or, arith}
use Rattle.nv_logpage.proofs.Unlinked.{first_word, later_word, unlinked_where_done}
use Rattle.nv_logpage.proofs.unlinking.unlink_page.Goals as goal

pub returns-then-place-eq0-clause-reads : goal.returns-then-place-eq0-clause-reads
returns-then-place-eq0-clause-reads g c =
    unlinked_where_done c.commit_word.result _ _ c.args.pages.now c.args.head_at c.args.place _ (get_or c.args.pages.now (c.args.place + 1) 0 * 4096) c.requires.not_last (first_word c.args.head_at c.args.place c.args.pages.now c.if-place-eq0.true) (omega arith)
    c.requires.head c.requires.head_inside c.len-end.ensures.short c.commit_word.ensures.done

pub returns-else-place-eq0-clause-reads : goal.returns-else-place-eq0-clause-reads
returns-else-place-eq0-clause-reads g c =
    let end = c.requires.inside (c.args.place - 1) (let more = c.requires.not_last in omega (arith, more)) in
    unlinked_where_done c.commit_word-else-place-eq0.result _ _ c.args.pages.now c.args.head_at c.args.place _ (get_or c.args.pages.now (c.args.place + 1) 0 * 4096) c.requires.not_last (later_word c.args.head_at c.args.place c.args.pages.now c.if-place-eq0.false) (omega arith)
    (omega arith) (omega (arith, end)) c.len-end.ensures.short c.commit_word-else-place-eq0.ensures.done
