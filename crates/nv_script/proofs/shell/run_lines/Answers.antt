use Rattle.std.proofs.Common.{refl, ◌+◌, ◌++◌, []}
use Rattle.std.proofs.lemmas.Result.{err_from_is_err_and}
use Rattle.nv_report.specs.Last.{status_of}
use Rattle.nv_session.specs.Sessions.{region_in}
use Rattle.nv_script.specs.Shell.{ShowsLinesEnd, ShowsAnyLines}
use Rattle.nv_script.proofs.Ending.{whole_so_far, short_so_far}
use Rattle.nv_script.proofs.Kept.{grows_none, grows_both, grows_still, grows_then}
use Rattle.nv_script.proofs.KnownProgress.{known_begins, known_all, fails_whole, fails_short}
use Rattle.nv_script.proofs.ShellLines.{line_on, shell_ends, too_long_ends, shell_ends_inside, too_long_ends_inside, any_lines}
use Rattle.nv_script.proofs.shell.run_lines.Goals as goal

pub lines-init : goal.lines-init
lines-init g c = ([], grows_none _, λ begin stands. (begin, stands, (λ later region. known_begins (ShowsLinesEnd 1 begin later region) _ _)))

pub print-requires : goal.print-requires
print-requires g c =
    let (text, prints, answers) = c.in_ok-next_answer.ensures.answers in
    (text, rw c.in-Text.is at prints)

pub returns-in_err-next_answer-clause-err : goal.returns-in_err-next_answer-clause-err
returns-in_err-next_answer-clause-err g c =
    let r = err_from_is_err_and c.from_residual.result c.from_residual.ensures.1 in
    let (given, grown, so_far) = c.lines.invariant in
    let kept = given ++ [] in
    rw r.1 (
      kept,
      grows_both _ _ _ given [] grown (grows_then _ _ _ [] c.prompt.ensures c.in_err-next_answer.ensures.none_kept),
      λ begin stands. let at = so_far begin stands in
          fails_whole (ShowsAnyLines 1 begin kept) r.0 c.in_err-next_answer.field-0.0 _ _ _ r.2 c.in_err-next_answer.ensures.kind
          (whole_so_far (ShowsLinesEnd 1 begin kept) (ShowsLinesEnd c.lines.number at.0 []) (ShowsAnyLines 1 begin kept) (any_lines begin kept) _ _ _ _ (at.2 []) at.0.region (status_of at.0.last) (at.0, (refl, refl, refl, refl), refl)),
    )

pub returns-in-End-clause-ok : goal.returns-in-End-clause-ok
returns-in-End-clause-ok g c =
    let (given, grown, so_far) = c.lines.invariant in
    let (text, prints, (here, more, (none, leads))) = c.in_ok-next_answer.ensures.answers in (
      given ++ here,
      grows_both _ _ _ given here grown (grows_then _ _ _ here c.prompt.ensures more),
      λ begin stands.
          let at = so_far begin stands in
          let next = leads at.0 at.1 in
          let region = region_in c.next_answer.new.session.store in
          known_all (ShowsLinesEnd 1 begin (given ++ here) region) _ (ShowsLinesEnd c.lines.number at.0 here region) _ _ _ _ _ _ (at.2 here region)
          (shell_ends _ _ (g.W.Write.contents c.lines.writer) (g.W.Write.contents c.lines.writer) c.lines.number at.0 next.0 text here region _ (rw c.in-End.is at next.1) (c.status.ensures next.0 next.2) next.2.region),
    )

pub returns-in_err-print-in-Text-clause-err : goal.returns-in_err-print-in-Text-clause-err
returns-in_err-print-in-Text-clause-err g c =
    let r = err_from_is_err_and c.from_residual-in_err-print-in-Text.result c.from_residual-in_err-print-in-Text.ensures.1 in
    let (given, grown, so_far) = c.lines.invariant in
    let (text, prints, (here, more, (none, leads))) = c.in_ok-next_answer.ensures.answers in
    let kept = given ++ here in
    rw r.1 (
      kept,
      grows_both _ _ _ given here grown (grows_then _ _ _ here c.prompt.ensures more),
      λ begin stands.
          let at = so_far begin stands in
          let next = leads at.0 at.1 in
          fails_short (ShowsAnyLines 1 begin kept) r.0 c.in_err-print-in-Text.field-0.0 _ _ _ r.2 c.in_err-print-in-Text.ensures.kind
          (short_so_far (ShowsLinesEnd 1 begin kept) (ShowsLinesEnd c.lines.number at.0 here) (ShowsAnyLines 1 begin kept) (any_lines begin kept) _ _ _ _ (at.2 here) next.0.region _ _
          (shell_ends_inside _ _ _ _ c.lines.number at.0 next.0 text here c.in-Text.printed (rw c.in-Text.is at next.1)
          (c.in_err-print-in-Text.ensures.short text (rw c.in-Text.is at prints)))),
    )

pub returns-in_err-text-in-TooLong-clause-err : goal.returns-in_err-text-in-TooLong-clause-err
returns-in_err-text-in-TooLong-clause-err g c =
    let r = err_from_is_err_and c.from_residual-in_err-text-in-TooLong.result c.from_residual-in_err-text-in-TooLong.ensures.1 in
    let (given, grown, so_far) = c.lines.invariant in
    let (text, prints, (here, more, (none, leads))) = c.in_ok-next_answer.ensures.answers in
    let kept = given ++ here in
    rw (r.1, r.2) (
      kept,
      grows_both _ _ _ given here grown (grows_then _ _ _ here c.prompt.ensures more),
      λ begin stands.
          let at = so_far begin stands in
          whole_so_far (ShowsLinesEnd 1 begin kept) (ShowsLinesEnd c.lines.number at.0 here) (ShowsAnyLines 1 begin kept) (any_lines begin kept) _ _ _ _ (at.2 here) at.0.region (status_of at.0.last) (at.0, (rw c.in-TooLong.is at none, refl, refl, refl), refl),
    )

pub returns-in_err-write_text-in-TooLong-clause-err : goal.returns-in_err-write_text-in-TooLong-clause-err
returns-in_err-write_text-in-TooLong-clause-err g c =
    let r = err_from_is_err_and c.from_residual-in_err-write_text-in-TooLong.result c.from_residual-in_err-write_text-in-TooLong.ensures.1 in
    let (given, grown, so_far) = c.lines.invariant in
    let (text, prints, (here, more, (none, leads))) = c.in_ok-next_answer.ensures.answers in
    let kept = given ++ here in
    rw r.1 (
      kept,
      grows_both _ _ _ given here grown (grows_then _ _ _ here c.prompt.ensures more),
      λ begin stands.
          let at = so_far begin stands in
          let next = leads at.0 at.1 in
          fails_short (ShowsAnyLines 1 begin kept) r.0 c.in_err-write_text-in-TooLong.field-0.0 _ _ _ r.2 c.in_err-write_text-in-TooLong.ensures.kind
          (short_so_far (ShowsLinesEnd 1 begin kept) (ShowsLinesEnd c.lines.number at.0 here) (ShowsAnyLines 1 begin kept) (any_lines begin kept) _ _ _ _ (at.2 here) at.0.region _ _
          (too_long_ends_inside _ _ _ _ c.lines.number at.0 next.0 text here (rw c.in-TooLong.is at next.1)
          (rw (c.as_bytes.ensures.value, c.in_ok-text-in-TooLong.ensures) at c.in_err-write_text-in-TooLong.ensures.short))),
    )

pub returns-in-TooLong-clause-ok : goal.returns-in-TooLong-clause-ok
returns-in-TooLong-clause-ok g c =
    let (given, grown, so_far) = c.lines.invariant in
    let (text, prints, (here, more, (none, leads))) = c.in_ok-next_answer.ensures.answers in (
      given ++ here,
      grows_still _ _ _ (given ++ here) (grows_both _ _ _ given here grown (grows_then _ _ _ here c.prompt.ensures more)) c.give.ensures,
      λ begin stands.
          let at = so_far begin stands in
          let next = leads at.0 at.1 in
          let region = region_in c.next_answer.new.session.store in
          known_all (ShowsLinesEnd 1 begin (given ++ here) region) _ (ShowsLinesEnd c.lines.number at.0 here region) _ _ _ _ _ 2 (at.2 here region)
          (too_long_ends _ _ _ _ c.lines.number at.0 next.0 text here region (rw c.in-TooLong.is at next.1)
          (rw (c.as_bytes.ensures.value, c.in_ok-text-in-TooLong.ensures) at c.in_ok-write_text-in-TooLong.ensures.ok) next.2.region),
    )

pub lines-preserved : goal.lines-preserved
lines-preserved g c =
    let (given, grown, so_far) = c.lines.invariant in
    let (text, prints, (here, more, (none, leads))) = c.in_ok-next_answer.ensures.answers in (
      given ++ here,
      grows_both _ _ _ given here grown (grows_then _ _ _ here c.prompt.ensures more),
      λ begin stands.
          let at = so_far begin stands in
          let next = leads at.0 at.1 in (
            next.0,
            next.2,
            (λ later region. line_on _ _ _ _ c.lines.number at.0 next.0 text here region begin given later _ _ c.in-Text.printed (at.2 (here ++ later) region) (rw c.in-Text.is at next.1)
                (c.in_ok-print-in-Text.ensures.ok text (rw c.in-Text.is at prints))),
          ),
    )

pub returns-clause-err : goal.returns-clause-err
returns-clause-err g c =
    let (given, grown, so_far) = c.lines.invariant in
    let kept = given ++ [] in (
      kept,
      grows_both _ _ _ given [] grown (grows_none _),
      λ begin stands. let at = so_far begin stands in
          whole_so_far (ShowsLinesEnd 1 begin kept) (ShowsLinesEnd c.lines.number at.0 []) (ShowsAnyLines 1 begin kept) (any_lines begin kept) _ _ _ _ (at.2 []) at.0.region (status_of at.0.last) (at.0, (refl, refl, refl, refl), refl),
    )
