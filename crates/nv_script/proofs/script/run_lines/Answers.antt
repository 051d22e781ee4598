use Rattle.std.proofs.Common.{refl, ◌+◌}
use Rattle.std.proofs.lemmas.Result.{err_from_is_err_and}
use Rattle.nv_session.specs.Sessions.{region_in}
use Rattle.nv_script.specs.Strict.{ShowsEndBy, ShowsByFrom, ShowsFromBy, HintsFromBy}
use Rattle.nv_script.proofs.Ending.{so_far, so_far_short}
use Rattle.nv_script.proofs.HintReplies.{hints_from, skipped_hints_nothing, text_hints, last_hints, end_hints, bad_hints}
use Rattle.nv_script.proofs.KnownProgress.{known_begins, known_on, known_all, known_whole, fails_whole, fails_short}
use Rattle.nv_script.proofs.LineReplies.{may_be_last, is_last_behind, goes_on_behind, skipped_goes_on, text_goes_on, text_ends_inside, last_ends, bad_ends, bad_ends_inside, end_ends}
use Rattle.nv_script.proofs.script.run_lines.Goals as goal
use Rattle.nv_script.proofs.script.run_lines.Goals.{in-Skipped, in-Text+in_ok-print-in-Text+else-ends}

pub lines-init : goal.lines-init
lines-init g c = λ begin stands. (begin, stands, (λ region. known_begins (ShowsEndBy c.args.rule begin region) _ _), known_begins (HintsFromBy c.args.rule begin) _ _)

pub print-requires : goal.print-requires
print-requires g c =
    let (said, prints, leads) = c.in_ok-next_reply.ensures.replies in
    (said, rw c.in-Text.is at prints)

-- ---- what was written

pub returns-in_err-next_reply-clause-err : goal.returns-in_err-next_reply-clause-err
returns-in_err-next_reply-clause-err g c =
    let r = err_from_is_err_and c.from_residual.result c.from_residual.ensures.1 in
    rw r.1 (λ begin stands. let at = c.lines.invariant begin stands in
    fails_whole (ShowsFromBy c.args.rule begin) r.0 c.in_err-next_reply.field-0.0 _ _ _ r.2 c.in_err-next_reply.ensures.kind (so_far c.args.rule begin at.0 c.lines.number _ _ _ _ at.2))

pub returns-in-End-clause-ok : goal.returns-in-End-clause-ok
returns-in-End-clause-ok g c = λ begin stands.
    let at = c.lines.invariant begin stands in
    let (said, prints, leads) = c.in_ok-next_reply.ensures.replies in
    let next = leads at.0 at.1 in
    let region = region_in c.next_reply.new.session.store in
    known_all (ShowsEndBy c.args.rule begin region) _ (ShowsByFrom c.args.rule c.lines.number at.0 region) _ _ _ _ _ _ (at.2 region)
    (end_ends c.args.rule _ _ (g.W.Write.contents c.lines.writer) (g.W.Write.contents c.lines.writer) c.lines.number at.0 next.0 said region _ (rw c.in-End.is at next.1) (c.status.ensures next.0 next.2) next.2.region)

pub returns-in_err-print-in-Text-clause-err : goal.returns-in_err-print-in-Text-clause-err
returns-in_err-print-in-Text-clause-err g c =
    let r = err_from_is_err_and c.from_residual-in_err-print-in-Text.result c.from_residual-in_err-print-in-Text.ensures.1 in
    rw r.1 (λ begin stands.
    let at = c.lines.invariant begin stands in
    let (said, prints, leads) = c.in_ok-next_reply.ensures.replies in
    let next = leads at.0 at.1 in
    fails_short (ShowsFromBy c.args.rule begin) r.0 c.in_err-print-in-Text.field-0.0 _ _ _ r.2 c.in_err-print-in-Text.ensures.kind
    (so_far_short c.args.rule begin at.0 c.lines.number _ _ _ _ at.2 next.0.region _ _
    (text_ends_inside c.args.rule _ _ _ _ c.lines.number at.0 next.0 said c.in-Text.printed (rw c.in-Text.is at next.1) (may_be_last c.args.rule _ c.ends_script-ends.result (c.ends_script-ends.ensures c.next_reply.new.session said (rw c.in-Text.is at prints)))
    (c.in_err-print-in-Text.ensures.short said (rw c.in-Text.is at prints)))))

pub returns-in_err-text-in-Bad-clause-err : goal.returns-in_err-text-in-Bad-clause-err
returns-in_err-text-in-Bad-clause-err g c =
    let r = err_from_is_err_and c.from_residual-in_err-text-in-Bad.result c.from_residual-in_err-text-in-Bad.ensures.1 in
    rw (r.1, r.2) (λ begin stands. let at = c.lines.invariant begin stands in so_far c.args.rule begin at.0 c.lines.number _ _ _ _ at.2)

pub returns-in_err-write_text-in-Bad-clause-err : goal.returns-in_err-write_text-in-Bad-clause-err
returns-in_err-write_text-in-Bad-clause-err g c =
    let r = err_from_is_err_and c.from_residual-in_err-write_text-in-Bad.result c.from_residual-in_err-write_text-in-Bad.ensures.1 in
    rw r.1 (λ begin stands.
    let at = c.lines.invariant begin stands in
    let (said, prints, leads) = c.in_ok-next_reply.ensures.replies in
    let next = leads at.0 at.1 in
    fails_short (ShowsFromBy c.args.rule begin) r.0 c.in_err-write_text-in-Bad.field-0.0 _ _ _ r.2 c.in_err-write_text-in-Bad.ensures.kind
    (so_far_short c.args.rule begin at.0 c.lines.number _ _ _ _ at.2 at.0.region _ _
    (bad_ends_inside c.args.rule _ _ _ _ c.lines.number at.0 next.0 said c.in-Bad.reason (rw c.in-Bad.is at next.1)
    (rw (c.as_bytes.ensures.value, c.in_ok-text-in-Bad.ensures) at c.in_err-write_text-in-Bad.ensures.short))))

pub returns-in-Bad-clause-ok : goal.returns-in-Bad-clause-ok
returns-in-Bad-clause-ok g c = λ begin stands.
    let at = c.lines.invariant begin stands in
    let (said, prints, leads) = c.in_ok-next_reply.ensures.replies in
    let next = leads at.0 at.1 in
    let region = region_in c.next_reply.new.session.store in
    known_all (ShowsEndBy c.args.rule begin region) _ (ShowsByFrom c.args.rule c.lines.number at.0 region) _ _ _ _ _ 2 (at.2 region)
    (bad_ends c.args.rule _ _ _ _ c.lines.number at.0 next.0 said region c.in-Bad.reason (rw c.in-Bad.is at next.1)
    (rw (c.as_bytes.ensures.value, c.in_ok-text-in-Bad.ensures) at c.in_ok-write_text-in-Bad.ensures.ok) next.2.region)

pub lines-preserved : goal.lines-preserved
lines-preserved g c = λ begin stands.
    let at = c.lines.invariant begin stands in
    let (said, prints, leads) = c.in_ok-next_reply.ensures.replies in
    let next = leads at.0 at.1 in (
      next.0,
      next.2,
      (λ region. elim c.match-branch-2.branch [
        | in-Skipped w ↦ rw w.writer-is (known_on (ShowsEndBy c.args.rule begin region) _ (ShowsByFrom c.args.rule c.lines.number at.0 region) _ (ShowsByFrom c.args.rule (c.lines.number + 1) next.0 region) _ _ _ _ (at.2 region)
            (skipped_goes_on c.args.rule _ _ (g.W.Write.contents c.lines.writer) (g.W.Write.contents c.lines.writer) c.lines.number at.0 next.0 said region (rw w.in-Skipped.is at next.1)))
        | in-Text+in_ok-print-in-Text+else-ends w ↦ rw w.writer-is (known_on (ShowsEndBy c.args.rule begin region) _ (ShowsByFrom c.args.rule c.lines.number at.0 region) _ (ShowsByFrom c.args.rule (c.lines.number + 1) next.0 region) _ _ _ _ (at.2 region)
            (text_goes_on c.args.rule _ _ _ _ c.lines.number at.0 next.0 said region w.in-Text.printed (rw w.in-Text.is at next.1)
            (goes_on_behind c.args.rule _ w.ends_script-ends.result w.if-ends.false (w.ends_script-ends.ensures c.next_reply.new.session said (rw w.in-Text.is at prints)))
            (w.in_ok-print-in-Text.ensures.ok said (rw w.in-Text.is at prints))))
      ]),
      elim c.match-branch-2.branch [
        | in-Skipped w ↦ rw w.hints-is (known_on (HintsFromBy c.args.rule begin) _ (hints_from c.args.rule c.lines.number at.0) _ (hints_from c.args.rule (c.lines.number + 1) next.0) _ _ _ _ at.3
            (skipped_hints_nothing c.args.rule _ _ (g.N.Hints.told c.lines.hints) (g.N.Hints.told c.lines.hints) c.lines.number at.0 next.0 said (rw w.in-Skipped.is at next.1)))
        | in-Text+in_ok-print-in-Text+else-ends w ↦ rw w.hints-is (known_on (HintsFromBy c.args.rule begin) _ (hints_from c.args.rule c.lines.number at.0) _ (hints_from c.args.rule (c.lines.number + 1) next.0) _ _ _ _ at.3
            (text_hints c.args.rule _ _ _ _ c.lines.number at.0 next.0 said w.in-Text.printed (rw w.in-Text.is at next.1)
            (goes_on_behind c.args.rule _ w.ends_script-ends.result w.if-ends.false (w.ends_script-ends.ensures c.next_reply.new.session said (rw w.in-Text.is at prints)))
            (w.hint_length.ensures next.0 said next.2 (w.refuses_length-is_length.ensures c.next_reply.new.session said (rw w.in-Text.is at prints)))))
      ],
    )

pub returns-clause-err : goal.returns-clause-err
returns-clause-err g c = λ begin stands. let at = c.lines.invariant begin stands in so_far c.args.rule begin at.0 c.lines.number _ _ _ _ at.2

-- ---- the hints

pub returns-in_err-next_reply-clause-first_hints : goal.returns-in_err-next_reply-clause-first_hints
returns-in_err-next_reply-clause-first_hints g c =
    let r = err_from_is_err_and c.from_residual.result c.from_residual.ensures.1 in
    rw r.1 (λ begin stands. let at = c.lines.invariant begin stands in known_whole (HintsFromBy c.args.rule begin) _ (hints_from c.args.rule c.lines.number at.0) _ _ _ 0 at.3 refl)

pub returns-in_err-print-in-Text-clause-first_hints : goal.returns-in_err-print-in-Text-clause-first_hints
returns-in_err-print-in-Text-clause-first_hints g c =
    let r = err_from_is_err_and c.from_residual-in_err-print-in-Text.result c.from_residual-in_err-print-in-Text.ensures.1 in
    rw r.1 (λ begin stands. let at = c.lines.invariant begin stands in known_whole (HintsFromBy c.args.rule begin) _ (hints_from c.args.rule c.lines.number at.0) _ _ _ 0 at.3 refl)

pub returns-in_err-text-in-Bad-clause-first_hints : goal.returns-in_err-text-in-Bad-clause-first_hints
returns-in_err-text-in-Bad-clause-first_hints g c =
    let r = err_from_is_err_and c.from_residual-in_err-text-in-Bad.result c.from_residual-in_err-text-in-Bad.ensures.1 in
    rw r.1 (λ begin stands. let at = c.lines.invariant begin stands in known_whole (HintsFromBy c.args.rule begin) _ (hints_from c.args.rule c.lines.number at.0) _ _ _ 0 at.3 refl)

pub returns-in_err-write_text-in-Bad-clause-first_hints : goal.returns-in_err-write_text-in-Bad-clause-first_hints
returns-in_err-write_text-in-Bad-clause-first_hints g c =
    let r = err_from_is_err_and c.from_residual-in_err-write_text-in-Bad.result c.from_residual-in_err-write_text-in-Bad.ensures.1 in
    rw r.1 (λ begin stands. let at = c.lines.invariant begin stands in known_whole (HintsFromBy c.args.rule begin) _ (hints_from c.args.rule c.lines.number at.0) _ _ _ 0 at.3 refl)

pub returns-clause-first_hints : goal.returns-clause-first_hints
returns-clause-first_hints g c = λ begin stands. let at = c.lines.invariant begin stands in known_whole (HintsFromBy c.args.rule begin) _ (hints_from c.args.rule c.lines.number at.0) _ _ _ 0 at.3 refl

pub returns-in-End-clause-hints : goal.returns-in-End-clause-hints
returns-in-End-clause-hints g c = λ begin stands.
    let at = c.lines.invariant begin stands in
    let (said, prints, leads) = c.in_ok-next_reply.ensures.replies in
    let next = leads at.0 at.1 in
    known_all (HintsFromBy c.args.rule begin) _ (hints_from c.args.rule c.lines.number at.0) _ _ _ _ _ 0 at.3
    (end_hints c.args.rule _ _ (g.N.Hints.told c.lines.hints) (g.N.Hints.told c.lines.hints) c.lines.number at.0 next.0 said 0 (rw c.in-End.is at next.1))

pub returns-in-Bad-clause-hints : goal.returns-in-Bad-clause-hints
returns-in-Bad-clause-hints g c = λ begin stands.
    let at = c.lines.invariant begin stands in
    let (said, prints, leads) = c.in_ok-next_reply.ensures.replies in
    let next = leads at.0 at.1 in
    known_all (HintsFromBy c.args.rule begin) _ (hints_from c.args.rule c.lines.number at.0) _ _ _ _ _ 2 at.3
    (bad_hints c.args.rule _ _ _ _ c.lines.number at.0 next.0 said c.in-Bad.reason (rw c.in-Bad.is at next.1) c.give.ensures)

-- ---- the first refused command

pub returns-then-ends-clause-ok : goal.returns-then-ends-clause-ok
returns-then-ends-clause-ok g c = λ begin stands.
    let at = c.lines.invariant begin stands in
    let (said, prints, leads) = c.in_ok-next_reply.ensures.replies in
    let next = leads at.0 at.1 in
    let region = region_in c.next_reply.new.session.store in
    known_all (ShowsEndBy c.args.rule begin region) _ (ShowsByFrom c.args.rule c.lines.number at.0 region) _ _ _ _ _ 2 (at.2 region)
    (last_ends c.args.rule _ _ _ _ c.lines.number at.0 next.0 said region c.in-Text.printed (rw c.in-Text.is at next.1)
    (is_last_behind c.args.rule _ c.ends_script-ends.result c.if-ends.true (c.ends_script-ends.ensures c.next_reply.new.session said (rw c.in-Text.is at prints)))
    (c.in_ok-print-in-Text.ensures.ok said (rw c.in-Text.is at prints)) next.2.region)

pub returns-then-ends-clause-hints : goal.returns-then-ends-clause-hints
returns-then-ends-clause-hints g c = λ begin stands.
    let at = c.lines.invariant begin stands in
    let (said, prints, leads) = c.in_ok-next_reply.ensures.replies in
    let next = leads at.0 at.1 in
    known_all (HintsFromBy c.args.rule begin) _ (hints_from c.args.rule c.lines.number at.0) _ _ _ _ _ 2 at.3
    (last_hints c.args.rule _ _ _ _ c.lines.number at.0 next.0 said c.in-Text.printed (rw c.in-Text.is at next.1)
    (is_last_behind c.args.rule _ c.ends_script-ends.result c.if-ends.true (c.ends_script-ends.ensures c.next_reply.new.session said (rw c.in-Text.is at prints)))
    (c.hint_length.ensures next.0 said next.2 (c.refuses_length-is_length.ensures c.next_reply.new.session said (rw c.in-Text.is at prints))))
